-- Document 01, "Register classes": a field of the register map, the fields that lie in a register, and their bits.
use Rattle.std.specs.Prelude.{cond, List, [], ◌∷◌, ℕ, zero, suc, ◌+◌, eqb}
use Rattle.std.specs.Int.Bits.{bit_or}

-- a field, or the part of it that lies in this register
pub record Field : Type 0 where
  pub address : ℕ
  pub mask : ℕ
  -- the bits that must be set, in their place; 0 for a field of which the list says none
  pub value : ℕ

abbrev pub field : ℕ → ℕ → Field
field address mask = record { address = address; mask = mask; value = 0 }

-- the mask of a field that fills its register
abbrev pub whole : ℕ
whole = 0xFF

-- count registers from `first` on, each filled by a field
abbrev pub bytes : ℕ → ℕ → List Field
bytes first zero = []
bytes first (suc count) = field first whole ∷ bytes (first + 1) count

-- the fields of the list that lie in register a
abbrev pub fields_at : ℕ → List Field → List Field
fields_at a [] = []
fields_at a (f ∷ fs) = cond (eqb a f.address) (f ∷ fields_at a fs) (fields_at a fs)

-- the bits that lie in one of the fields
abbrev pub masks : List Field → ℕ
masks [] = 0
masks (f ∷ fs) = bit_or f.mask (masks fs)

-- those of them that must be 1
abbrev pub values : List Field → ℕ
values [] = 0
values (f ∷ fs) = bit_or f.value (values fs)
