-- What the converter goes by, asked for over slices, as the code finds it. `MatrixRefusals` (Refusals) and `Faces` tie it to
-- documents 01, "The chip machine", and 02, request 04.
use Rattle.std.specs.Prelude.{◌≡◌, not, ◌&&◌, List, [], ◌∷◌, ◌++◌, ℕ, eqb, ltb, length, drop}
use Rattle.refusals.specs.Rows.{image_length, buffer_short}
use Rattle.refusals.specs.Tests.{Test, ◌if◌, lowest, answer}
use Rattle.matrix.specs.Coefficient.{coefficient_bytes}
use Rattle.chip.specs.Machine.{coefficients, mode_in_use}
use Rattle.chip.specs.declared.Chip.{Chip}
use Rattle.chip.specs.Write.{lent_as}
use Rattle.views.specs.Numbered.{Count}
use Rattle.views.specs.Entry.{marked}

-- what the matrix is asked of: the packet buffer is not lent, and plays no part; the mark is given as its byte
abbrev pub asked_of : List ℕ → List ℕ → ℕ → Chip
asked_of image buffer mark = lent_as image [] buffer (marked mark)

-- mode and the twelve in use, 25 bytes as the request has them
unfoldable pub matrix_bytes : List ℕ → List ℕ → ℕ → List ℕ
matrix_bytes image buffer mark = mode_in_use (asked_of image buffer mark) ∷ coefficient_bytes (coefficients (asked_of image buffer mark))

-- the tests of rows 7 and 10, which do not look at the mark
abbrev pub matrix_tests : List ℕ → List ℕ → List ℕ → List Test
matrix_tests image buffer out =
    image_length if not (eqb (length image) 256 && eqb (length buffer) 24) ∷ buffer_short if ltb (length out) 25 ∷ []

unfoldable pub matrix_refusal : List ℕ → List ℕ → List ℕ → ℕ
matrix_refusal image buffer out = lowest (matrix_tests image buffer out)

-- a refusal has its number, and a count of 0 beside it
abbrev pub no_count : ℕ → Count
no_count number = record { refusal = number; count = 0 }

-- the answer, and what is left in the lent bytes: "buffer bytes after .. stay", and a refusal changes none
unfoldable pub matrix_answer : List ℕ → List ℕ → List ℕ → Count
matrix_answer image buffer out = answer (matrix_refusal image buffer out) no_count (record { refusal = 0; count = 25 })

unfoldable pub matrix_out : List ℕ → List ℕ → ℕ → List ℕ → List ℕ
matrix_out image buffer mark out = answer (matrix_refusal image buffer out) (λ number. out) (matrix_bytes image buffer mark ++ drop 25 out)

-- what is promised: the answer, and what is left in the lent bytes
abbrev pub ShowsMatrix : List ℕ → List ℕ → ℕ → List ℕ → Count → List ℕ → Type 0
ShowsMatrix image buffer mark out given left = (given ≡ matrix_answer image buffer out) × (left ≡ matrix_out image buffer mark out)
