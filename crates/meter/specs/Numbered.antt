-- What the calls answer, in the paper's numbers: the number of a refusal, 0 for none, and what stands beside it.
-- The number is that of `refusal_number`: no two refusals have one (`refusals::told_apart`).
use Rattle.std.specs.Prelude.{ℕ, Result}
use Rattle.refusals.specs.declared.Refusal.{Refusal}
use Rattle.refusals.specs.Numbered.{told}
use Rattle.matrix.specs.declared.Matrix.{Matrix}
use Rattle.matrix.specs.Matrix.{no_matrix}

-- a matrix, or the number of a refusal with no matrix beside it
pub record Converted : Type 0 where
  pub refusal : ℕ
  pub matrix : Matrix

abbrev pub converted_told : Result Matrix Refusal → Converted
converted_told = told (λ matrix. record { refusal = 0; matrix = matrix }) (λ number. record { refusal = number; matrix = no_matrix })

-- the number of a refusal, and the count of bytes written
pub record Metered : Type 0 where
  pub refusal : ℕ
  pub count : ℕ

abbrev pub metered_told : Result ℕ Refusal → Metered
metered_told = told (λ count. record { refusal = 0; count = count }) (λ number. record { refusal = number; count = 0 })
