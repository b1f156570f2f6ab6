-- How the code tests the coefficients of a request: `Numbers` ties `is_allowed` to document 01's words, and `InHand` (request) `matrix_in_range`
-- to it; `Sent` and `SaidByBytes` tie the two bytes of a coefficient to its 13 bits.
use Rattle.std.specs.Prelude.{◌≡◌, ◌↔◌, Bool, true, ◌&&◌, ◌||◌, List, [], ◌∷◌, ℕ, zero, suc, ◌%◌, eqb, leb, ltb, get_or, length, drop}
use Rattle.lists.specs.Same.{same_list}
use Rattle.matrix.specs.declared.Matrix.{Matrix}
use Rattle.matrix.specs.Matrix.{no_matrix}
use Rattle.matrix.specs.Coefficient.{signed, value_of, word, low_thirteen, high_byte, Spans}

-- a word of two bytes is within -4096 to 4095
abbrev pub within : ℕ → Bool
within w = ltb w 4096 || leb 61440 w

-- each coefficient of a body
unfoldable pub in_range : List ℕ → Bool
in_range [] = true
in_range (high ∷ []) = true
in_range (high ∷ low ∷ more) = within (word high low) && in_range more

-- a body of 25 bytes whose mode is at most 2 and whose coefficients are in range: what refusal 5 asks of a matrix
unfoldable pub is_allowed : List ℕ → Bool
is_allowed body = eqb (length body) 25 && leb (get_or body 0 0) 2 && in_range (drop 1 body)

-- the same of a matrix in hand: none, or on, in such a mode, and its twelve fields of 13 bits
abbrev pub small_fields : List ℕ → ℕ → Bool
small_fields fields zero = true
small_fields fields (suc n) = small_fields fields n && ltb (get_or fields n 0) 8192

unfoldable pub matrix_in_range : Matrix → Bool
matrix_in_range m =
    (eqb m.on 0 && eqb m.mode no_matrix.mode && same_list m.coefficients no_matrix.coefficients)
    || (eqb m.on 1 && leb m.mode 2 && small_fields m.coefficients 12)

-- what two bytes of a request say: `within` is "from -4096 to 4095", and the field stands for the number that the bytes stand for
pub record Sent (w : ℕ) : Type 0 where
  pub range : (within w ≡ true) ↔ Spans 12 (signed 15 w)
  pub same : within w ≡ true → value_of (low_thirteen w) ≡ signed 15 w

-- the bytes of a field are within the request's range, and say that field
pub record SaidByBytes (c : ℕ) : Type 0 where
  pub range : within (word (high_byte c) (c % 256)) ≡ true
  pub same : low_thirteen (word (high_byte c) (c % 256)) ≡ c
