-- What decoding answers, in the paper's numbers: the number of a refusal, 0 for none, and the count of bytes of the request.
-- The number is that of `refusal_number`: no two refusals have one (`refusals::told_apart`).
use Rattle.std.specs.Prelude.{Result, ℕ}
use Rattle.refusals.specs.declared.Refusal.{Refusal}
use Rattle.refusals.specs.Numbered.{told}

pub record Decoded : Type 0 where
  pub refusal : ℕ
  pub count : ℕ

-- a refusal has its number and count 0
abbrev pub not_decoded : ℕ → Decoded
not_decoded number = record { refusal = number; count = 0 }

-- what an answer says in numbers
abbrev pub decoded_told : Result ℕ Refusal → Decoded
decoded_told = told (λ count. record { refusal = 0; count = count }) not_decoded
