-- What the calls on a clock answer, in the paper's numbers: a refusal has its number, with zeros beside it, and no refusal has 0.
-- The number is that of `refusal_number`: no two refusals have one (`refusals::told_apart`).
use Rattle.std.specs.Prelude.{Result, ℕ}
use Rattle.refusals.specs.declared.Refusal.{Refusal}
use Rattle.refusals.specs.Numbered.{told}
use Rattle.clock.specs.declared.Hertz.{Hertz}
use Rattle.clock.specs.declared.NCts.{NCts}

-- a clock in Hz, kept exact: num / den
pub record Clock : Type 0 where
  pub refusal : ℕ
  pub num : ℕ
  pub den : ℕ

-- N and CTS
pub record Pair : Type 0 where
  pub refusal : ℕ
  pub n : ℕ
  pub cts : ℕ

-- a clock that is answered
abbrev pub clock_known : Hertz → Clock
clock_known clock = record { refusal = 0; num = clock.num; den = clock.den }

-- what an answer says in numbers
abbrev pub clock_told : Result Hertz Refusal → Clock
clock_told = told clock_known (λ n. record { refusal = n; num = 0; den = 0 })

abbrev pub pair_told : Result NCts Refusal → Pair
pair_told = told (λ pair. record { refusal = 0; n = pair.n; cts = pair.cts }) (λ n. record { refusal = n; n = 0; cts = 0 })
