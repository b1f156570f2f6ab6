-- The two calls on single fields give the lowest of their rows that applies: rows 4, 5 and 17, and rows 4, 5, 17 and 9. Assumes nothing.
use mathlib.Core.Path.{◌≡◌, refl, ap}
use mathlib.Core.Logic.{inl, inr, ◌≢◌}
use mathlib.Core.Bool.{Bool, true, false, cond, not, ◌&&◌}
use mathlib.Core.List.{List}
use Prim.Native.Nat.{ℕ, ◌*◌, ◌<◌}
use native.Mathlib.Omega.{arith}
use lib.Dec.{eqb, ltb}
use borrow.Author.Tests.{ltb-false, eqb-true, eqb-false, not-true, not-false}
use Rattle.lists.proofs.Both.{neither_left, neither_right}
use Rattle.lists.proofs.Decides.{Decides, failing, equal, less, either, together}
use Rattle.refusals.specs.Rows.{Condition, Given}
use Rattle.refusals.specs.Tests.{Test, lowest}
use Rattle.refusals.proofs.Tests.{Decided, lowest_given, none_at, answer_given, answer_beside}
use Rattle.clock.specs.Numbered.{Clock}
use Rattle.clock.specs.Numbered.{Pair}
use Rattle.video.specs.declared.Video.{Video}
use Rattle.video.specs.Modes.{offered}
use Rattle.video.specs.Tests.{pixel_outside}
use Rattle.video.proofs.Fits.{is_pixel_outside}
use Rattle.clock.specs.Clocks.{tmds, limit}
use Rattle.clock.specs.Answers.{above_limit, clock_tests, no_clock, clock_of}
use Rattle.clock.specs.Pairs.{Coherent}
use Rattle.clock.specs.Answers.{no_pair, other}
use Rattle.clock.specs.Found.{coherent_of, pair_tests, pair_of}
use Rattle.clock.specs.Theorems.{clock_rules, pair_rules, ClockRefusals}
use Rattle.clock.proofs.Exactness.{None}
use Rattle.clock.proofs.Coherence.{in_mode_lem, EitherWay, either_way}
use Rattle.clock.proofs.Offered.{number_is}
use Rattle.clock.proofs.Offered as offered-clock

module _ (video : Video) where
  abbrev clock_number : Clock → ℕ
  clock_number c = c.refusal

  none_beside : lowest (clock_tests video) ≡ 0 → (tmds video).refusal ≡ 0
  none_beside _ = offered-clock.no_number video

  pub is_above : Decides (above_limit (tmds video)) (limit * (tmds video).den < (tmds video).num)
  is_above = less (limit * (tmds video).den) (tmds video).num

  clock_given : Given (clock_rules video) (clock_of video).refusal
  unfolding clock_of
  clock_given =
      answer_given no_clock _ clock_number (clock_rules video) (lowest (clock_tests video)) refl none_beside
      (lowest_given (clock_tests video) (clock_rules video) refl (refl, failing (offered video), λ _. (refl, is_pixel_outside video, λ _. (refl, is_above, λ _. tt))))

  no_clock_lem : (clock_of video).refusal ≢ 0 → ((clock_of video).num ≡ 0) × ((clock_of video).den ≡ 0)
  unfolding clock_of
  no_clock_lem h =
      let e = answer_beside no_clock _ clock_number (lowest (clock_tests video)) none_beside h in
      (ap (λ (c : Clock). c.num) e, ap (λ (c : Clock). c.den) e)

module _ (video : Video) (rate coherent : ℕ) where
  abbrev tests : List Test
  tests = pair_tests video rate coherent

  abbrev rules : List Condition
  rules = pair_rules video rate coherent

  abbrev found : Pair
  found = coherent_of (clock_of video) rate

  abbrev pair_number : Pair → ℕ
  pair_number p = p.refusal

  -- row 9, past the others
  no_exact : Coherent (clock_of video) rate found → EitherWay found → Decides (not (eqb found.refusal 0)) (None (clock_of video) rate)
  no_exact w (inl e) =
      let nine = ap pair_number e in
      record { passes = λ _. w.refused.0 nine; fails = λ f. absurd (omega (arith, nine, eqb-true found.refusal 0 (not-false _ f))) }
  no_exact w (inr z) =
      record { passes = λ t. absurd (eqb-false found.refusal 0 (not-true _ t) z); fails = λ _ none. omega (arith, z, w.refused.1 none) }

  decided : Decided tests rules
  decided = (
    refl,
    failing (offered video),
    λ o. (
      refl,
      either (is_pixel_outside video) (either (less 6 rate) (less 1 coherent)),
      λ r. (
        refl,
        is_above video,
        λ a.
            let p = neither_left (pixel_outside video) _ r in
            let h : rate < 7 = omega (arith, ltb-false 6 rate (neither_left (ltb 6 rate) (ltb 1 coherent) (neither_right (pixel_outside video) _ r))) in
            let z : (clock_of video).refusal ≡ 0 = rw (number_is video, not-false (offered video) o, p, a) in
            (refl, together (equal coherent 1) (no_exact (in_mode_lem video rate z h) (either_way (clock_of video) rate)), λ _. tt),
      ),
    ),
  )

  -- the pair where none of them applies
  abbrev taken : Pair
  taken = cond (eqb coherent 1) found (other rate)

  no_number : lowest tests ≡ 0 → taken.refusal ≡ 0
  no_number z = go (eqb coherent 1) (none_at tests 3 z)
    where
      go : (b : Bool) → (b && not (eqb found.refusal 0)) ≡ false → (cond b found (other rate)).refusal ≡ 0
      go true e = eqb-true found.refusal 0 (not-false _ e)
      go false e = refl

  pair_given : Given rules (pair_of video rate coherent).refusal
  unfolding pair_of
  pair_given = answer_given no_pair taken pair_number rules (lowest tests) refl no_number (lowest_given tests rules refl decided)

  no_pair_lem : (pair_of video rate coherent).refusal ≢ 0 → ((pair_of video rate coherent).n ≡ 0) × ((pair_of video rate coherent).cts ≡ 0)
  unfolding pair_of
  no_pair_lem h =
      let e = answer_beside no_pair taken pair_number (lowest tests) no_number h in
      (ap (λ (p : Pair). p.n) e, ap (λ (p : Pair). p.cts) e)

pub refusals : ClockRefusals
refusals = record { clock = clock_given; no_clock = no_clock_lem; pair = pair_given; no_pair = no_pair_lem }
