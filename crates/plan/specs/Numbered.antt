-- What planning answers, in the paper's numbers: the number of a refusal, 0 for none, and the count of pairs written.
-- The number is that of `refusal_number`: no two refusals have one (`refusals::told_apart`).
use Rattle.std.specs.Prelude.{Result, ℕ}
use Rattle.refusals.specs.declared.Refusal.{Refusal}
use Rattle.refusals.specs.Numbered.{told}

pub record Planned : Type 0 where
  pub refusal : ℕ
  pub count : ℕ

-- what an answer says in numbers: a refusal has its number, and no pair
abbrev pub planned_told : Result ℕ Refusal → Planned
planned_told = told (λ count. record { refusal = 0; count = count }) (λ n. record { refusal = n; count = 0 })
