-- What the calls answer, in the paper's numbers: the number of a refusal with zeros beside it, or 0 and the answer.
-- The number is that of `refusal_number`: no two refusals have one (`refusals::told_apart`).
use Rattle.std.specs.Prelude.{ℕ}

-- the VICs that a screen lists, and the rates that it covers with two channels and with eight, a bit each
pub record Monitor : Type 0 where
  pub refusal : ℕ
  pub vics_low : ℕ
  pub vics_high : ℕ
  pub rates_2 : ℕ
  pub rates_8 : ℕ

-- the place of a wish, and where its VIC goes in the request
pub record Choice : Type 0 where
  pub refusal : ℕ
  pub place : ℕ
  pub at : ℕ
