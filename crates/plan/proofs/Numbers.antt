-- The numbers of an accepted request: N and CTS have 20 bits; C, M, Q and PR in the frames' own words. Assumes nothing.
use mathlib.Core.Path.{◌≡◌, refl, sym, ap, subst}
use mathlib.Core.Logic.{◌≢◌, inl, inr}
use mathlib.Core.Bool.{Bool, true, false, cond, ◌&&◌}
use mathlib.Core.List.{[], ◌∷◌}
use Prim.Native.Nat.{ℕ, ◌<◌, zero, suc, ◌≤◌}
use native.Mathlib.Omega.{arith}
use lib.Dec.{eqb, ltb, lit<}
use lib.ListN.{get_or}
use borrow.Author.Tests.{ltb-true, eqb-true, ne_eqb}
use Rattle.lists.proofs.Both.{both_left, both_right}
use Rattle.bits.proofs.Below.{at_below}
use Rattle.video.specs.declared.Video.{Video}
use Rattle.video.specs.Modes.{mode_of}
use Rattle.video.specs.Video.{repetition}
use Rattle.video.specs.Fits.{VideoFits}
use Rattle.video.proofs.Fits.{vic_small, is_listed, range_fits}
use Rattle.clock.specs.Numbered.{Pair}
use Rattle.clock.specs.Answers.{clock_of, other}
use Rattle.clock.specs.Tables.{other_row}
use Rattle.clock.specs.Pairs.{Coherent}
use Rattle.clock.specs.Found.{coherent_of}
use Rattle.clock.proofs.Rates.{reference_most_lem}
use Rattle.clock.proofs.Coherence.{EitherWay, either_way, in_mode_lem, pair_in_lem}
use Rattle.frames.specs.Frames.{colorimetry, quantisation, repeats}
use Rattle.sound.specs.declared.Sound.{Sound}
use Rattle.sound.specs.declared.Sound.TheVariants.{Off, On}
use Rattle.request.specs.declared.Request.{Request}
use Rattle.request.specs.Read.{pair_in, pair_for}
use Rattle.sound.specs.Fits.{SoundFits}
use Rattle.request.specs.Fits.{Fits}
use Rattle.plan.specs.Places.{in_c, in_m, in_q, in_pr}

-- ---- N and CTS

abbrev pub Twenty : Pair → Type 0
Twenty p = (p.n < 1048576) × (p.cts < 1048576)

coherent_twenty : (r : Request) → Fits r → (rate : ℕ) → rate < 7 → Twenty (coherent_of (clock_of r.video) rate)
coherent_twenty r f rate h = go (coherent_of (clock_of r.video) rate) (in_mode_lem r.video rate f.clock h) (either_way (clock_of r.video) rate)
  where
    go : (p : Pair) → Coherent (clock_of r.video) rate p → EitherWay p → Twenty p
    go p c (inl e) = subst Twenty (sym e) (lit< tt, lit< tt)
    go p c (inr z) =
        let x = (c.exact (λ n. omega arith)).1 in
        (omega (arith, x.most, reference_most_lem rate), omega (arith, x.fits))

pub pair_twenty : (r : Request) → Fits r → Twenty (pair_for r)
unfolding pair_for
pair_twenty r f = go r.sound f.sound
  where
    go : (s : Sound) → SoundFits s → Twenty (pair_in r s)
    go Off h = (lit< tt, lit< tt)
    go (On rate channels coherent) h =
        let l : rate < 7 = omega (arith, h.0) in
        let k : coherent < 2 = omega (arith, h.2) in
        subst Twenty (sym (pair_in_lem r.video rate coherent f.clock l k)) (either (eqb coherent 1))
      where
        either : (b : Bool) → Twenty (cond b (coherent_of (clock_of r.video) rate) (other rate))
        either true = coherent_twenty r f rate (omega (arith, h.0))
        either false = (ltb-true _ _ (at_below (λ n. ltb (get_or other_row n 0) 1048576) 7 rate refl (omega (arith, h.0))), lit< tt)

-- where there is no pair, that is refusal 9
abbrev Nine : Pair → Type 0
Nine p = p.refusal ≢ 0 → p.refusal ≡ 9

pub pair_nine : (r : Request) → Fits r → Nine (pair_for r)
unfolding pair_for
pair_nine r f = go r.sound f.sound
  where
    go : (s : Sound) → SoundFits s → Nine (pair_in r s)
    go Off h = λ n. absurd (n refl)
    go (On rate channels coherent) h =
        let l : rate < 7 = omega (arith, h.0) in
        let k : coherent < 2 = omega (arith, h.2) in
        subst Nine (sym (pair_in_lem r.video rate coherent f.clock l k)) (either (eqb coherent 1) (either_way (clock_of r.video) rate))
      where
        either : (b : Bool) → EitherWay (coherent_of (clock_of r.video) rate) → Nine (cond b (coherent_of (clock_of r.video) rate) (other rate))
        either true (inl e) = λ n. ap (λ (p : Pair). p.refusal) e
        either true (inr z) = λ n. absurd (n z)
        either false w = λ n. absurd (n refl)

-- ---- C and M of a listed mode, Q and PR

-- one test over every VIC
abbrev right : ℕ → Bool
right vic =
    cond (eqb (mode_of vic).families 0) true (eqb (mode_of vic).colorimetry (in_c vic 1) && eqb (mode_of vic).aspect (in_m vic))

all_right : (vic : ℕ) → vic < 64 → right vic ≡ true
unfolding mode_of
all_right vic h = at_below right 64 vic refl h

module _ (v : Video) (f : VideoFits v) where
  its_row : (eqb (mode_of v.vic).colorimetry (in_c v.vic 1) && eqb (mode_of v.vic).aspect (in_m v.vic)) ≡ true
  its_row = rw (ne_eqb _ 0 (is_listed v f)) at (all_right v.vic (vic_small v f))

  pub shape : (mode_of v.vic).aspect ≡ in_m v.vic
  shape = eqb-true _ _ (both_right (eqb (mode_of v.vic).colorimetry (in_c v.vic 1)) _ its_row)

  pub color : colorimetry (mode_of v.vic) v.encoding ≡ in_c v.vic v.encoding
  color = go (eqb v.encoding 0) (eqb-true _ _ (both_left _ (eqb (mode_of v.vic).aspect (in_m v.vic)) its_row))
    where
      go : (b : Bool) → (mode_of v.vic).colorimetry ≡ in_c v.vic 1 → cond b 0 (mode_of v.vic).colorimetry ≡ cond b 0 (in_c v.vic 1)
      go true e = refl
      go false e = e

  pub range : quantisation v ≡ in_q v.encoding v.range
  range = go (eqb v.encoding 0)
    where
      two : (range : ℕ) → range ≤ 1 → ◌≡◌ {A = ℕ} (cond (eqb range 0) 1 2) (get_or (1 ∷ 2 ∷ []) range 0)
      two zero h = refl
      two (suc zero) h = refl
      two (suc (suc n)) h = absurd (omega arith)

      go : (b : Bool) → ◌≡◌ {A = ℕ} (cond b (cond (eqb v.range 0) 1 2) 0) (cond b (get_or (1 ∷ 2 ∷ []) v.range 0) 0)
      go true = two v.range (range_fits v f)
      go false = refl

pub again : (v : Video) → repeats v ≡ in_pr (repetition v)
again v = go (repetition v)
  where
    go : (n : ℕ) → get_or (0 ∷ 1 ∷ 3 ∷ []) n 0 ≡ in_pr n
    go zero = refl
    go (suc zero) = refl
    go (suc (suc zero)) = refl
    go (suc (suc (suc n))) = refl
