-- What is proved of the answers: the documents' words for the clock and for the pair that is given, and when the two calls on single fields
-- are refused.
use Rattle.std.specs.Prelude.{◌≡◌, ◌↔◌, ◌⊎◌, ◌≢◌, true, false, List, [], ◌∷◌, ℕ, ◌*◌, ◌<◌, ◌≤◌}
use Rattle.refusals.specs.Rows.{mode_not_offered, field_out_of_range, clock_above, no_exact_pair, Condition, ◌when◌, Given}
use Rattle.ratio.specs.Lowest.{Lowest}
use Rattle.video.specs.declared.Video.{Video}
use Rattle.video.specs.Modes.{mode_of, offered}
use Rattle.video.specs.Video.{depth, repetition, in_family, PixelOutside}
use Rattle.clock.specs.Numbered.{Clock}
use Rattle.clock.specs.Numbered.{Pair}
use Rattle.clock.specs.Clocks.{tmds_top, tmds_bottom, tmds, limit, AboveLimit}
use Rattle.clock.specs.Answers.{clock_of}
use Rattle.clock.specs.Pairs.{NoExact, Coherent}
use Rattle.clock.specs.Answers.{other}
use Rattle.clock.specs.Found.{pair_of}

-- "The clock routine answers that exact fraction": once over mode, family, depth and repetition
pub record ClockRule : Type 0 where
  -- the pixel clock times depth times repetition, in lowest terms
  pub exact : (v : Video)
      → Lowest (tmds_top (mode_of v.vic).hertz v.family (depth v) (repetition v)) (tmds_bottom v.family) (tmds v).num (tmds v).den
  -- it is what is answered, and then it is at most the limit
  pub given : (v : Video) → (clock_of v).refusal ≡ 0 → clock_of v ≡ tmds v
  pub within : (v : Video) → (clock_of v).refusal ≡ 0 → (clock_of v).num ≤ limit * (clock_of v).den
  -- depth alone never meets the limit, and no mode meets it in one of its families alone
  pub deep : (v : Video) → offered v ≡ true → (PixelOutside v → ⊥) → repetition v ≡ 0 → AboveLimit (tmds v) → ⊥
  pub families : (v : Video) → offered (in_family 1 v) ≡ true → (PixelOutside v → ⊥)
      → AboveLimit (tmds (in_family 0 v)) ↔ AboveLimit (tmds (in_family 1 v))

-- "N and CTS", of what is answered for a clock that is answered and a rate from 0 to 6
pub record PairRule : Type 0 where
  -- "For coherent audio": the pair that `Coherent` asks for, and there is no other
  pub coherent : (video : Video) (rate : ℕ) → (clock_of video).refusal ≡ 0 → rate < 7
      → Coherent (clock_of video) rate (pair_of video rate 1)
  pub one : (clock : Clock) (rate : ℕ) → 0 < clock.den → rate < 7 → (a b : Pair) → Coherent clock rate a → Coherent clock rate b → a ≡ b
  -- "For other audio: N from the "Other" row, CTS 0"
  pub others : (video : Video) (rate : ℕ) → (clock_of video).refusal ≡ 0 → rate < 7 → pair_of video rate 0 ≡ other rate

-- "A call on single fields checks those .. whose fields it takes": row 4 for a clock, "VIC not listed below, or family not offered by it";
-- row 5 of the depth byte; row 17
abbrev pub clock_rules : Video → List Condition
clock_rules video =
    mode_not_offered when (offered video ≡ false) ∷
    field_out_of_range when PixelOutside video ∷
    clock_above when AboveLimit (tmds video) ∷ []

-- rows 4, 5, 17 and 9 for N/CTS: "any other field outside its range", and "coherent audio, and no exact pair exists"
abbrev pub pair_rules : Video → ℕ → ℕ → List Condition
pair_rules video rate coherent =
    mode_not_offered when (offered video ≡ false) ∷
    field_out_of_range when (PixelOutside video ⊎ (6 < rate) ⊎ (1 < coherent)) ∷
    clock_above when AboveLimit (tmds video) ∷
    no_exact_pair when NoExact (clock_of video) rate coherent ∷ []

-- the refusals of the two calls, and zeros beside them
pub record ClockRefusals : Type 0 where
  pub clock : (video : Video) → Given (clock_rules video) (clock_of video).refusal
  pub no_clock : (video : Video) → (clock_of video).refusal ≢ 0 → ((clock_of video).num ≡ 0) × ((clock_of video).den ≡ 0)
  pub pair : (video : Video) (rate coherent : ℕ) → Given (pair_rules video rate coherent) (pair_of video rate coherent).refusal
  pub no_pair : (video : Video) (rate coherent : ℕ) → (pair_of video rate coherent).refusal ≢ 0
      → ((pair_of video rate coherent).n ≡ 0) × ((pair_of video rate coherent).cts ≡ 0)
