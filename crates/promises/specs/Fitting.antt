-- Document 02, request 10, by what planning and N/CTS answer: 20 "wins over 8 and 9", and is never lifted.
use Rattle.std.specs.Prelude.{◌≡◌, ◌↔◌, List, ℕ}
use Rattle.refusals.specs.Rows.{number, sound_too_much}
use Rattle.clock.specs.Answers.{no_pair}
use Rattle.request.specs.Read.{ask_of, read_of, ncts_of}
use Rattle.blanking.specs.Theorems.{SameMode, NoLess}
use Rattle.plan.specs.Plan.{plan_of, nothing}

pub record Fitting : Type 0 where
  -- it depends on the request alone, whatever image and buffer are lent
  pub wins : (input image buffer : List ℕ) → (plan_of input image buffer ≡ nothing (number sound_too_much)) ↔ ((read_of input).refusal ≡ number sound_too_much)
  pub pair : (input : List ℕ) → (read_of input).refusal ≡ number sound_too_much → ncts_of input ≡ no_pair (number sound_too_much)
  -- "more channels or a higher rate in the same mode never lifts this refusal": of a second input to which none of rows 1 to 6 applies
  pub lifted : (input image buffer other image' buffer' : List ℕ) → (plan_of input image buffer).refusal ≡ number sound_too_much → (ask_of other).refusal ≡ 0
      → SameMode (ask_of input).request.video (ask_of other).request.video → NoLess (ask_of input).request.sound (ask_of other).request.sound
      → (plan_of other image' buffer').refusal ≡ number sound_too_much
