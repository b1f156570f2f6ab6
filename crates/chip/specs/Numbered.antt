-- What a write answers, in the paper's numbers: the number of its refusal, 0 for none, and the state that it hands back.
-- The number is that of `refusal_number`: no two refusals have one (`refusals::told_apart`).
use Rattle.std.specs.Prelude.{ℕ, Result}
use Rattle.refusals.specs.declared.Refusal.{Refusal}
use Rattle.refusals.specs.Numbered.{told, given_by}
use Rattle.chip.specs.declared.Chip.{Chip}

pub record Wrote : Type 0 where
  pub refusal : ℕ
  pub chip : Chip

-- beside a refusal it is the state as it was
abbrev pub wrote_told : Chip → Result Chip Refusal → Wrote
wrote_told s = told (λ t. record { refusal = 0; chip = t }) (λ n. record { refusal = n; chip = s })

-- of a write to a state that is lent, with what it leaves
abbrev pub applied_told : Chip → Result (Unit {0}) Refusal → Wrote
applied_told left result = record { refusal = given_by result; chip = left }
