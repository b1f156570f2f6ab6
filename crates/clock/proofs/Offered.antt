-- The clock that is found is the one that is asked for, and what is known of it: by one test each over modes, families, depths and
-- repetitions. Assumes nothing.
use mathlib.Core.Path.{◌≡◌, refl, sym, ap, ◌∙◌}
use mathlib.Core.Logic.{◌↔◌, inl, inr}
use mathlib.Core.Bool.{Bool, true, false, cond, not, ◌&&◌, ◌||◌, beq}
use Prim.Native.Nat.{ℕ, ◌*◌, ◌<◌, ◌≤◌}
use native.Mathlib.Nat.{mul-le-mul_left, le_trans}
use native.Mathlib.Omega.{arith}
use lib.Dec.{eqb, ltb, leb}
use borrow.Author.Tests.{ltb-true, ltb-false, lt-ltb, leb-true, eqb-true, eq-eqb, not-true, not-false}
use Rattle.lists.specs.Find.{every}
use Rattle.lists.proofs.Find.{found}
use Rattle.lists.proofs.Both.{both_left, both_right, beq_true}
use Rattle.lists.proofs.Decides.{less, refuted}
use Rattle.bits.proofs.Below.{below, at_below}
use Rattle.refusals.specs.Tests.{lowest}
use Rattle.refusals.proofs.Tests.{none_at, numbered, answer_none}
use Rattle.ratio.specs.Lowest.{Lowest}
use Rattle.ratio.specs.Terms.{divisor_of, euclid}
use Rattle.ratio.proofs.Divisor.{in_lowest}
use Rattle.video.specs.declared.Mode.{Mode}
use Rattle.video.specs.declared.Video.{Video}
use Rattle.video.specs.Modes.{modes, mode_of, row_of, unlisted, offered}
use Rattle.video.specs.Video.{depth, repetition, in_family, PixelOutside}
use Rattle.video.specs.Tests.{pixel_outside}
use Rattle.video.proofs.Fits.{is_pixel_outside}
use Rattle.clock.specs.Numbered.{Clock}
use Rattle.clock.specs.Clocks.{tmds_top, tmds_bottom, tmds_of, tmds, limit, AboveLimit}
use Rattle.clock.specs.Answers.{above_limit, clock_tests, no_clock, clock_of}
use Rattle.clock.specs.Bounds.{den_most, WithinBounds}
use Rattle.clock.specs.Found.{quarter_of, found_clock}
use Rattle.clock.specs.Theorems.{ClockRule}

-- ---- a test of a clock in Hz, a family, a depth and a repetition: where every mode passes it, so does each video

abbrev passed : (ℕ → ℕ → ℕ → ℕ → Bool) → Mode → Bool
passed P m = below (λ f. below (λ d. below (λ r. P m.hertz f d r) 3) 3) m.families

module _ (P : ℕ → ℕ → ℕ → ℕ → Bool) (t : every (passed P) modes ≡ true) (video : Video) (o : offered video ≡ true)
    (d : depth video < 3) (r : repetition video < 3) where
  at_video : P (mode_of video.vic).hertz video.family (depth video) (repetition video) ≡ true
  unfolding mode_of
  at_video =
      let m : Mode = row_of video.vic modes in
      let row : passed P m ≡ true = found (passed P) (λ m. eqb m.vic video.vic) unlisted modes t refl in
      let f : video.family < m.families = ltb-true video.family m.families o in
      let h : ℕ = m.hertz in
      let one = at_below (λ f. below (λ d. below (λ r. P h f d r) 3) 3) m.families video.family row f in
      at_below (λ r. P h video.family (depth video) r) 3 (repetition video)
      (at_below (λ d. below (λ r. P h video.family d r) 3) 3 (depth video) one d) r

-- neither half of the depth byte is outside its range
pub halves : (video : Video) → pixel_outside video ≡ false → (depth video < 3) × (repetition video < 3)
halves video p =
    let out : PixelOutside video → ⊥ = (is_pixel_outside video).fails p in
    (omega (arith, at_most (λ h. out (inl h))), omega (arith, at_most (λ h. out (inr h))))
  where
    at_most : {m n : ℕ} → (m < n → ⊥) → n ≤ m
    at_most {m} {n} h = ltb-false m n (refuted (less m n) h)

-- ---- the fraction's bottom

bottom_some : (family : ℕ) → 0 < tmds_bottom family
bottom_some family = go (eqb family 0)
  where
    go : (b : Bool) → 0 < cond b 1 1001 * 4
    go true = omega arith
    go false = omega arith

-- ---- the tests

-- the clock that the code finds is the one in lowest terms
abbrev same : ℕ → ℕ → ℕ → ℕ → Bool
same h f d r = eqb (tmds_of h f d r).num (found_clock h f d r).num && eqb (tmds_of h f d r).den (found_clock h f d r).den

-- it is above 0, and what divides it is small
abbrev sizes : ℕ → ℕ → ℕ → ℕ → Bool
sizes h f d r = ltb 0 (tmds_of h f d r).num && (ltb 0 (tmds_of h f d r).den && leb (tmds_of h f d r).den den_most)

-- without repetition it is within the limit; it is above the limit in both families or in none
abbrev alone : ℕ → ℕ → ℕ → ℕ → Bool
alone h f d r = not (eqb r 0) || not (above_limit (tmds_of h f d r))

abbrev alike : ℕ → ℕ → ℕ → ℕ → Bool
alike h f d r = beq (above_limit (tmds_of h 0 d r)) (above_limit (tmds_of h 1 d r))

all_same : every (passed same) modes ≡ true
unfolding quarter_of divisor_of euclid
all_same = refl

all_sizes : every (passed sizes) modes ≡ true
unfolding divisor_of euclid
all_sizes = refl

all_alone : every (passed alone) modes ≡ true
unfolding divisor_of euclid
all_alone = refl

all_alike : every (passed alike) modes ≡ true
unfolding divisor_of euclid
all_alike = refl

module _ (video : Video) (o : offered video ≡ true) (p : pixel_outside video ≡ false) where
  abbrev small : (depth video < 3) × (repetition video < 3)
  small = halves video p

  pub found_clock_lem : tmds video ≡ found_clock (mode_of video.vic).hertz video.family (depth video) (repetition video)
  unfolding tmds
  found_clock_lem =
      let t = at_video same all_same video o small.0 small.1 in
      let h : ℕ = (mode_of video.vic).hertz in
      let n : Bool = eqb (tmds video).num (found_clock h video.family (depth video) (repetition video)).num in
      let e = eqb-true _ _ (both_left _ _ t) in
      let d = eqb-true _ _ (both_right n _ t) in
      λ i. record { refusal = 0; num = e i; den = d i }

  pub sized_in : above_limit (tmds video) ≡ false → WithinBounds (tmds video)
  unfolding tmds
  sized_in a =
      let t = at_video sizes all_sizes video o small.0 small.1 in
      let c : Clock = tmds_of (mode_of video.vic).hertz video.family (depth video) (repetition video) in
      let u = both_right (ltb 0 c.num) _ t in
      let den = leb-true _ _ (both_right (ltb 0 c.den) _ u) in
      record {
        some = ltb-true _ _ (both_left _ _ t);
        most = le_trans (ltb-false _ _ a) (mul-le-mul_left limit den);
        part = ltb-true _ _ (both_left _ _ u);
        parts = den;
        lowest = (in_lowest _ _ (bottom_some video.family)).lowest;
      }

  deep_alone : repetition video ≡ 0 → above_limit (tmds video) ≡ false
  unfolding tmds
  deep_alone e = not-true _ (rw (eq-eqb _ _ e) at (at_video alone all_alone video o small.0 small.1))

-- ---- what the refusal of a clock says

pub no_number : (video : Video) → (tmds video).refusal ≡ 0
unfolding tmds
no_number video = refl

abbrev number : Clock → ℕ
number c = c.refusal

pub number_is : (video : Video) → (clock_of video).refusal ≡ lowest (clock_tests video)
unfolding clock_of
number_is video = numbered no_clock (tmds video) number (lowest (clock_tests video)) (λ _. no_number video) refl

-- where each pixel is sent once, it is not 17
pub once_within : (video : Video) → repetition video ≡ 0 → eqb (clock_of video).refusal 17 ≡ false
once_within video e = ap (λ (n : ℕ). eqb n 17) (number_is video) ∙ go (offered video) refl (pixel_outside video) refl
  where
    go : (o : Bool) → offered video ≡ o → (p : Bool) → pixel_outside video ≡ p
        → eqb (cond (not o) 4 (cond p 5 (cond (above_limit (tmds video)) 17 0))) 17 ≡ false
    go false o p q = refl
    go true o true q = refl
    go true o false q = rw (deep_alone video o q e)

-- a clock that is answered
pub record Taken (video : Video) : Type 0 where
  pub offered : offered video ≡ true
  pub inside : pixel_outside video ≡ false
  pub within : above_limit (tmds video) ≡ false

none : (video : Video) → (clock_of video).refusal ≡ 0 → lowest (clock_tests video) ≡ 0
none video z = sym (number_is video) ∙ z

pub taken : (video : Video) → (clock_of video).refusal ≡ 0 → Taken video
taken video z =
    let n = none video z in
    record {
      offered = not-false (offered video) (none_at (clock_tests video) 0 n);
      inside = none_at (clock_tests video) 1 n;
      within = none_at (clock_tests video) 2 n;
    }

pub is_tmds : (video : Video) → (clock_of video).refusal ≡ 0 → clock_of video ≡ tmds video
unfolding clock_of
is_tmds video z = answer_none no_clock (tmds video) (lowest (clock_tests video)) (none video z)

pub sized : (video : Video) → (clock_of video).refusal ≡ 0 → WithinBounds (clock_of video)
sized video z = let t = taken video z in rw (is_tmds video z) (sized_in video t.offered t.inside t.within)

-- ---- the theorem

exact : (v : Video)
    → Lowest (tmds_top (mode_of v.vic).hertz v.family (depth v) (repetition v)) (tmds_bottom v.family) (tmds v).num (tmds v).den
unfolding tmds
exact v = in_lowest _ _ (bottom_some v.family)

within : (v : Video) → (clock_of v).refusal ≡ 0 → (clock_of v).num ≤ limit * (clock_of v).den
within v z = rw (is_tmds v z) (ltb-false _ _ (taken v z).within)

inside : (v : Video) → (PixelOutside v → ⊥) → pixel_outside v ≡ false
inside v out = refuted (is_pixel_outside v) out

pub families : (v : Video) → offered (in_family 1 v) ≡ true → (PixelOutside v → ⊥) → AboveLimit (tmds (in_family 0 v)) ↔ AboveLimit (tmds (in_family 1 v))
unfolding tmds
families v o out =
    let s = halves v (inside v out) in
    let t = at_video alike all_alike (in_family 1 v) o s.0 s.1 in
    let e = beq_true _ _ t in
    ((λ h. ltb-true _ _ (sym e ∙ lt-ltb _ _ h)), (λ h. ltb-true _ _ (e ∙ lt-ltb _ _ h)))

pub rule : ClockRule
rule =
    record {
      exact = exact;
      given = is_tmds;
      within = within;
      deep = λ v o out e h. let f = deep_alone v o (inside v out) e in omega (arith, ltb-false (limit * (tmds v).den) (tmds v).num f);
      families = families;
    }
