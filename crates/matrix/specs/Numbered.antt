-- What the preview answers, in the paper's numbers: the number of a refusal, 0 for none, and three codes.
-- The number is that of `refusal_number`: no two refusals have one (`refusals::told_apart`).
use Rattle.std.specs.Prelude.{ℕ, Result}
use Rattle.refusals.specs.declared.Refusal.{Refusal}
use Rattle.refusals.specs.Numbered.{told}
use Rattle.matrix.specs.declared.Codes.{Codes}

-- a previewed pixel, or the number of a refusal
pub record Pixel : Type 0 where
  pub refusal : ℕ
  pub a : ℕ
  pub b : ℕ
  pub c : ℕ

-- what an answer says in numbers: the three codes, or the number of a refusal with zeros beside it
abbrev pub pixel_told : Result Codes Refusal → Pixel
pixel_told = told (λ codes. record { refusal = 0; a = codes.a; b = codes.b; c = codes.c }) (λ number. record { refusal = number; a = 0; b = 0; c = 0 })
