-- Document 01, "The request" (Matrix) and "Matrix": CSC mode, then A1 to A4, B1 to B4, C1 to C4. The code reads a body by `is_allowed` and
-- `fields`; `Numbers` ties both to the document's words, `Allowed` and `number_at`.
use Rattle.std.specs.Prelude.{◌≡◌, List, [], ◌∷◌, ℕ, ◌+◌, ◌*◌, ◌<◌, ◌≤◌, ℤ, get_or, length, drop}
use Rattle.matrix.specs.declared.Matrix.{Matrix}
use Rattle.matrix.specs.Coefficient.{word, low_thirteen, signed, Spans}

-- the fields of 13 bits
unfoldable pub fields : List ℕ → List ℕ
fields [] = []
fields (high ∷ []) = []
fields (high ∷ low ∷ more) = low_thirteen (word high low) ∷ fields more

-- "With a matrix: converter on."
abbrev pub matrix_of : List ℕ → Matrix
matrix_of body = record { on = 1; mode = get_or body 0 0; coefficients = fields (drop 1 body) }

-- "No matrix: converter off, mode 1, A1 = B2 = C3 = 2048, the rest 0."
abbrev pub no_matrix : Matrix
no_matrix = record { on = 0; mode = 1; coefficients = 2048 ∷ 0 ∷ 0 ∷ 0 ∷ 0 ∷ 2048 ∷ 0 ∷ 0 ∷ 0 ∷ 0 ∷ 2048 ∷ 0 ∷ [] }

abbrev pub Bytes : List ℕ → Type 0
Bytes body = (i : ℕ) → get_or body i 0 < 256

-- the two bytes of coefficient i, and the number that they stand for
abbrev pub word_at : List ℕ → ℕ → ℕ
word_at body i = word (get_or body (2 * i + 1) 0) (get_or body (2 * i + 2) 0)

abbrev pub number_at : List ℕ → ℕ → ℤ
number_at body i = signed 15 (word_at body i)

-- "Matrix, count .. 25: CSC mode, then A1 to A4, B1 to B4, C1 to C4, .. from -4096 to 4095"; "(matrix mode above 2)"
pub record Allowed (body : List ℕ) : Type 0 where
  pub sized : length body ≡ 25
  pub mode : get_or body 0 0 ≤ 2
  pub each : (i : ℕ) → i < 12 → Spans 12 (number_at body i)
