-- What the answers on a clock say in numbers: a clock that is asked for stands for the one that is
-- answered. Assumes nothing.
use mathlib.Core.Path.{◌≡◌, refl, sym, ap, ◌∙◌}
use mathlib.Core.Bool.{Bool, true, false, cond, not}
use mathlib.Core.List.{List, [], ◌∷◌}
use Prim.Native.Nat.{ℕ}
use native.Mathlib.Omega.{arith}
use borrow.Author.Tests.{not-false}
use Rattle.refusals.specs.declared.Refusal.{Refusal}
use Rattle.refusals.specs.Rows.{mode_not_offered, field_out_of_range}
use Rattle.refusals.specs.Numbered.{refusal_number}
use Rattle.refusals.specs.Tests.{Test, ◌if◌, lowest}
use Rattle.refusals.proofs.Told.{refusal_some}
use Rattle.refusals.proofs.Tests.{numbered, none_at, answer_none}
use Rattle.video.specs.declared.Video.{Video}
use Rattle.video.specs.Modes.{offered}
use Rattle.video.specs.Tests.{pixel_outside}
use Rattle.clock.specs.declared.Hertz.{Hertz}
use Rattle.clock.specs.Numbered.{Clock, clock_known}
use Rattle.clock.specs.Clocks.{tmds}
use Rattle.clock.specs.Answers.{no_clock, no_pair, clock_asked, above_limit, clock_of}
use Rattle.clock.specs.Bounds.{WithinBounds}
use Rattle.clock.specs.Found.{pair_of}
use Rattle.clock.proofs.Offered.{no_number, sized_in}

module _ (video : Video) where
  abbrev tests : List Test
  tests = mode_not_offered if not (offered video) ∷ field_out_of_range if pixel_outside video ∷ []

  abbrev found : ℕ
  found = lowest tests

  asked_number : (clock_asked video).refusal ≡ found
  unfolding clock_asked
  asked_number = numbered no_clock (tmds video) (λ (c : Clock). c.refusal) found (λ _. no_number video) refl

  -- 4 or 5 is given for a pair too
  pub early : (rate coherent : ℕ) (e : Refusal) → no_clock (refusal_number e) ≡ clock_asked video → no_pair (refusal_number e) ≡ pair_of video rate coherent
  unfolding pair_of
  early rate coherent e a = go (offered video) refl (pixel_outside video) refl
    where
      n : refusal_number e ≡ found
      n = ap (λ (c : Clock). c.refusal) a ∙ asked_number

      go : (o : Bool) → offered video ≡ o → (p : Bool) → pixel_outside video ≡ p → no_pair (refusal_number e) ≡ pair_of video rate coherent
      go false f p g = let k : refusal_number e ≡ 4 = n ∙ rw f in rw (f, k)
      go true f true g = let k : refusal_number e ≡ 5 = n ∙ rw (f, g) in rw (f, g, k)
      go true f false g = absurd (refusal_some e (n ∙ rw (f, g)))

  -- a clock that is asked for and within the limit is the one that is answered
  pub record Within (clock : Hertz) : Type 0 where
    pub bounds : WithinBounds (clock_known clock)
    pub is : clock_of video ≡ clock_known clock

  pub within : (clock kept : Hertz) → clock_known clock ≡ clock_asked video
      → clock_known kept ≡ cond (above_limit (clock_known clock)) (no_clock 17) (clock_known clock) → Within kept
  unfolding clock_asked clock_of
  within clock kept a k = go (above_limit (clock_known clock)) refl
    where
      z : found ≡ 0
      z = sym asked_number ∙ ap (λ (c : Clock). c.refusal) (sym a)

      o : offered video ≡ true
      o = not-false (offered video) (none_at tests 0 z)

      p : pixel_outside video ≡ false
      p = none_at tests 1 z

      t : clock_known clock ≡ tmds video
      t = a ∙ answer_none no_clock (tmds video) found z

      go : (b : Bool) → above_limit (clock_known clock) ≡ b → Within kept
      go true e =
          let seventeen : clock_known kept ≡ no_clock 17 = rw e at k in
          let s : ◌≡◌ {A = ℕ} 0 17 = ap (λ (c : Clock). c.refusal) seventeen in absurd (omega arith)
      go false e =
          let same : clock_known kept ≡ tmds video = rw e at k ∙ t in
          let f : above_limit (tmds video) ≡ false = ap above_limit (sym t) ∙ e in
          record { bounds = rw same (sized_in video o p f); is = rw (o, p, f) (sym same) }
