-- Document 01, "The request", the matrix section: what the code tests and reads is the rule of `Allowed` and the numbers of the bytes.
use Rattle.std.specs.Prelude.{◌≡◌, ◌↔◌, true, List, ℕ, ◌<◌, get_or}
use Rattle.matrix.specs.Coefficient.{value_of}
use Rattle.matrix.specs.Tests.{is_allowed}
use Rattle.matrix.specs.Matrix.{matrix_of, number_at, Allowed}

-- `is_allowed` is that rule, and the fields of an allowed body stand for the numbers that its bytes stand for
pub record Numbers (body : List ℕ) : Type 0 where
  pub rule : (is_allowed body ≡ true) ↔ Allowed body
  pub values : is_allowed body ≡ true → (i : ℕ) → i < 12 → value_of (get_or (matrix_of body).coefficients i 0) ≡ number_at body i
