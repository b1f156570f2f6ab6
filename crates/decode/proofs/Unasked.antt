-- A request under E that asks for nothing is accepted under D, and wants the same registers: so each request is accepted with its edition byte
-- as it is answered, and wants the same. Assumes nothing.
use mathlib.Core.Path.{◌≡◌, refl, sym, ap, ◌∙◌}
use mathlib.Core.Bool.{Bool, true, false, cond}
use Prim.Native.Nat.{ℕ}
use lib.Dec.{eqb}
use borrow.Author.Tests.{eqb-true}
use Rattle.video.specs.Video.{answered_edition}
use Rattle.clock.specs.Numbered.{Pair}
use Rattle.clock.specs.Clocks.{tmds}
use Rattle.clock.specs.Answers.{clock_of}
use Rattle.clock.specs.Found.{pair_of}
use Rattle.frames.specs.Frames.{avi_frame}
use Rattle.sound.specs.declared.Sound.{Sound}
use Rattle.sound.specs.declared.Sound.TheVariants.{Off, On}
use Rattle.request.specs.declared.Request.{Request}
use Rattle.request.specs.Numbered.{Checked}
use Rattle.request.specs.Read.{pair_in, pair_for}
use Rattle.request.specs.ThereAndBack.{request_in_edition}
use Rattle.request.specs.Fits.{Fits}
use Rattle.request.proofs.Alone.{accepted_under_d}
use Rattle.plan.specs.Places.{places}
use Rattle.plan.specs.Wanted.{placed_at, wanted}
use Rattle.decode.specs.Ends.{Acceptable}

-- N and CTS are those of any edition byte
pub same_pair : (r : Request) (byte : ℕ) → pair_for (request_in_edition byte r) ≡ pair_for r
unfolding pair_for pair_of clock_of tmds
same_pair r byte = go r.sound
  where
    go : (t : Sound) → pair_in (request_in_edition byte r) t ≡ pair_in r t
    go Off = refl
    go (On rate channels coherent) = refl

pub taken_under_d : (r : Request) → Fits r → Acceptable r → Acceptable (request_in_edition 0x00 r)
taken_under_d r g t =
    record {
      read = accepted_under_d r g.matrix g.video (ap (λ (c : Checked). c.refusal) t.read);
      paired = ap (λ (p : Pair). p.refusal) (same_pair r 0x00) ∙ t.paired;
    }

-- where nothing is asked for, each row is the same
same_wanted : (r : Request) → wanted (request_in_edition 0x01 r) ≡ wanted (request_in_edition 0x00 r)
unfolding wanted avi_frame
same_wanted r =
    let of : Pair → ℕ → ℕ = λ p a. placed_at a (places (request_in_edition 0x00 r) p) in
    ap of (same_pair r 0x01 ∙ sym (same_pair r 0x00))

-- with the edition byte as it is answered
pub unasked : (r : Request) → Fits r → Acceptable r
    → Acceptable (request_in_edition (answered_edition r.video.edition) r) × (wanted (request_in_edition (answered_edition r.video.edition) r) ≡ wanted r)
unasked r g t = go (eqb r.video.edition 0x01) refl
  where
    go : (b : Bool) → eqb r.video.edition 0x01 ≡ b
        → Acceptable (request_in_edition (cond b 0x00 r.video.edition) r) × (wanted (request_in_edition (cond b 0x00 r.video.edition) r) ≡ wanted r)
    go false e = (t, refl)
    go true e =
        let same : r ≡ request_in_edition 0x01 r = ap (λ (byte : ℕ). request_in_edition byte r) (eqb-true _ _ e) in
        (taken_under_d r g t, sym (same_wanted r) ∙ sym (ap wanted same))
