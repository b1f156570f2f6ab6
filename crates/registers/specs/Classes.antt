-- Document 01, "Register classes": the class of each bit of the 256 registers of the main map, and the table's rule.
-- The register map (section 5) and Table 14 of source document 000 fill it, by `by_precedence`. `registers::rule` is `Rule` of each row.
use Rattle.std.specs.Prelude.{◌≡◌, List, [], ◌∷◌, ℕ, zero, suc, ◌+◌, ◌<◌, ◌≤◌, get_or}
use Rattle.bits.specs.Merge.{bit}
use Rattle.registers.specs.declared.Class.{Class}
use Rattle.registers.specs.Precedence.{by_precedence}

-- a row: "the masks of read-only, mandated, named and free bits, and the mandated bits"
abbrev pub class : ℕ → ℕ → ℕ → ℕ → ℕ → Class
class r m n f b = record { read_only = r; mandated = m; named = n; free = f; bits = b }

-- f at each of count addresses from a on
abbrev pub each_address : (ℕ → Class) → ℕ → ℕ → List Class
each_address f a zero = []
each_address f a (suc count) = f a ∷ each_address f (a + 1) count

abbrev pub classes : List Class
classes = each_address by_precedence 0 256

-- the class of an address. The table behind it is unfolded only in a proof that asks for it by name.
unfoldable pub class_at : ℕ → Class
class_at a = get_or classes a (class 0 0 0 0 0)

abbrev pub read_only : ℕ → ℕ
read_only a = (class_at a).read_only

abbrev pub mandated : ℕ → ℕ
mandated a = (class_at a).mandated

abbrev pub named : ℕ → ℕ
named a = (class_at a).named

abbrev pub free : ℕ → ℕ
free a = (class_at a).free

-- the mandated bits
abbrev pub bits : ℕ → ℕ
bits a = (class_at a).bits

pub record Rule (c : Class) : Type 0 where
  -- "The four masks share no bit and cover all eight": each bit lies in exactly one of them
  pub one : (j : ℕ) → j < 8 → bit j c.read_only + bit j c.mandated + bit j c.named + bit j c.free ≡ 1
  -- "mandated bits lie in their mask"
  pub inside : (j : ℕ) → j < 8 → bit j c.bits ≤ bit j c.mandated
  -- each number is a byte
  pub bytes : (c.read_only < 256) × (c.mandated < 256) × (c.named < 256) × (c.free < 256) × (c.bits < 256)
