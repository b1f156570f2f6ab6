-- A request whose sound is not coherent wants the same registers in both families, so the second need not be tried. Assumes nothing.
use mathlib.Core.Path.{◌≡◌, refl, sym, ap, ◌∙◌}
use mathlib.Core.Bool.{true, false, not}
use mathlib.Core.List.{List}
use Prim.Native.Nat.{ℕ, ◌<◌}
use native.Mathlib.Omega.{arith}
use lib.ListN.{length}
use borrow.Author.Tests.{ltb-true, lt-ltb}
use Rattle.lists.proofs.Decides.{refuted}
use Rattle.video.specs.declared.Video.{Video}
use Rattle.video.specs.Tests.{shown_outside, video_outside, shown_combined, video_combined}
use Rattle.video.proofs.Fits.{is_pixel_outside, pixel_inside}
use Rattle.video.specs.Video as video
use Rattle.video.specs.Modes.{mode_of, offered}
use Rattle.clock.specs.Numbered.{Pair}
use Rattle.clock.specs.Clocks.{tmds}
use Rattle.clock.specs.Answers.{above_limit}
use Rattle.clock.proofs.Offered.{families}
use Rattle.clock.proofs.Rows.{is_above}
use Rattle.clock.proofs.Coherence.{pair_in_lem}
use Rattle.frames.specs.Frames.{avi_frame}
use Rattle.sound.specs.declared.Sound.{Sound}
use Rattle.sound.specs.declared.Sound.TheVariants.{Off, On}
use Rattle.request.specs.declared.Request.{Request}
use Rattle.request.specs.Read.{allowed_of, pair_in, pair_for}
use Rattle.request.specs.Bytes.{request_in_family}
use Rattle.sound.specs.Fits.{SoundFits}
use Rattle.matrix.specs.Tests.{matrix_in_range}
use Rattle.request.proofs.Inside.{each_inside}
use Rattle.request.proofs.Hand.{passed, passing, in_hand}
use Rattle.plan.specs.Places.{places}
use Rattle.plan.specs.Wanted.{placed_at, wanted}
use Rattle.writes.specs.List.{stands_below}
use Rattle.plan.specs.Plan.{stands_in}
use Rattle.plan.proofs.Stood.{stood, standing}
use Rattle.decode.specs.Decode.{is_coherent}

-- ---- rows 4 to 6, 17 and 20

first_offered : (v : Video) → offered (video.in_family 1 v) ≡ true → offered (video.in_family 0 v) ≡ true
first_offered v o = lt-ltb 0 (mode_of v.vic).families (omega (arith, ltb-true 1 (mode_of v.vic).families o))

-- above the limit in both families or in none
first_within : (v : Video) → offered (video.in_family 1 v) ≡ true → video_outside v ≡ false → above_limit (tmds (video.in_family 1 v)) ≡ false
    → above_limit (tmds (video.in_family 0 v)) ≡ false
first_within v o x w =
    refuted (is_above (video.in_family 0 v))
    (λ h. (is_above (video.in_family 1 v)).fails w ((families v o ((is_pixel_outside v).fails (pixel_inside v x))).0 h))

module _ (r : Request) (twelve : length r.matrix.coefficients ≡ 12) where
  first : allowed_of (request_in_family 1 r) ≡ 0 → allowed_of (request_in_family 0 r) ≡ 0
  unfolding video_outside shown_outside video_combined shown_combined
  first z =
      let v : Video = r.video in
      let p = passed (request_in_family 1 r) z in
      let i : video_outside v ≡ false = (each_inside r.wiring v r.sound (not (matrix_in_range r.matrix)) p.inside).video in
      passing (request_in_family 0 r)
      (record { mode = first_offered v p.mode; inside = p.inside; apart = p.apart; within = first_within v p.mode i p.within; room = p.room })

  -- ---- N and CTS

  module _ (z : allowed_of (request_in_family 1 r) ≡ 0) where
    pair_same : (t : Sound) → is_coherent t ≡ false → SoundFits t → pair_in (request_in_family 0 r) t ≡ pair_in (request_in_family 1 r) t
    pair_same Off n f = refl
    pair_same (On rate channels coherent) n f =
        let h : rate < 7 = omega (arith, f.0) in
        let k : coherent < 2 = omega (arith, f.2) in
        let e = pair_in_lem (video.in_family 0 r.video) rate coherent ((in_hand (request_in_family 0 r)).fits twelve (first z)).clock h k in
        let g = pair_in_lem (video.in_family 1 r.video) rate coherent ((in_hand (request_in_family 1 r)).fits twelve z).clock h k in
        (rw n at e) ∙ sym (rw n at g)

    same_pair : is_coherent r.sound ≡ false → pair_for (request_in_family 0 r) ≡ pair_for (request_in_family 1 r)
    unfolding pair_for
    same_pair n = pair_same r.sound n ((in_hand (request_in_family 1 r)).fits twelve z).sound

    -- ---- the wanted bytes

    same_wanted : is_coherent r.sound ≡ false → wanted (request_in_family 0 r) ≡ wanted (request_in_family 1 r)
    unfolding wanted avi_frame
    same_wanted n = let of : Pair → ℕ → ℕ = λ p a. placed_at a (places r p) in ap of (same_pair n)

  pub spared : (image : List ℕ) → is_coherent r.sound ≡ false → stands_in (request_in_family 1 r) image ≡ true → stands_in (request_in_family 0 r) image ≡ true
  spared image n t =
      let h = stood (request_in_family 1 r) image t in
      standing (request_in_family 0 r) image (record {
        allowed = first h.allowed;
        sized = h.sized;
        paired = ap (λ (p : Pair). p.refusal) (same_pair h.allowed n) ∙ h.paired;
        below = ap (λ (w : ℕ → ℕ). stands_below w image 256) (same_wanted h.allowed n) ∙ h.below;
      })
