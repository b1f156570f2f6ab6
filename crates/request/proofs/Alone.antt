-- Where a request is accepted under D, its edition byte alone decides what it is answered. Assumes nothing.
use mathlib.Core.Path.{◌≡◌, refl, sym, ◌∙◌}
use mathlib.Core.Logic.{inr}
use mathlib.Core.Bool.{Bool, true, false, cond, ◌&&◌, ◌||◌}
use lib.Dec.{eqb}
use Rattle.lists.proofs.Decides.{refuted, confirmed}
use Rattle.wiring.specs.Kinds.{rgb_in}
use Rattle.wiring.specs.Wiring.{wires_of}
use Rattle.wiring.specs.Tests.{wiring_outside}
use Rattle.video.specs.declared.Video.{Video}
use Rattle.video.specs.Tests.{edition_outside, shown_outside, video_outside, asked_under_d, shown_combined, video_combined}
use Rattle.video.specs.Fits.{VideoFits}
use Rattle.video.proofs.Fits as video
use Rattle.clock.specs.Clocks.{tmds}
use Rattle.sound.specs.Tests.{is_on}
use Rattle.request.specs.declared.Request.{Request}
use Rattle.request.specs.Read.{converts_in, read_of, allowed_of}
use Rattle.request.specs.Request.{rgb_out}
use Rattle.request.specs.Bytes.{as_bytes}
use Rattle.request.specs.ThereAndBack.{Shaped, request_in_edition}
use Rattle.request.specs.Hand.{Says}
use Rattle.request.proofs.Said.{said}
use Rattle.request.proofs.Hand.{out, together, Passed, passed, passing, in_hand}

module _ (r : Request) where
  abbrev v : Video
  v = r.video

  abbrev d : Request
  d = request_in_edition 0x00 r

  -- where the byte's own rows let it pass the others are those of D
  same_outside : edition_outside v ≡ false → out r ≡ out d
  unfolding video_outside shown_outside
  same_outside e = rw e

  same_combined : asked_under_d v ≡ false → together r ≡ together d
  unfolding video_combined shown_combined
  same_combined e = rw e

  -- where one of them does not, it applies
  five : edition_outside v ≡ true → out r ≡ true
  five e =
      let o : video_outside v ≡ true = confirmed (video.is_outside v) (inr (inr (inr (inr (inr ((video.is_edition_outside v).passes e)))))) in
      rw o (second (wiring_outside r.wiring))
    where
      second : (b : Bool) → (b || true) ≡ true
      second true = refl
      second false = refl

  six : asked_under_d v ≡ true → together r ≡ true
  six e =
      let o : video_combined v ≡ true = confirmed (video.is_combined v) (inr (inr (inr ((video.is_under_d v).passes e)))) in
      rw o (last (converts_in (rgb_in (wires_of r.wiring).input) (rgb_out v) && eqb r.matrix.on 0) (eqb v.link 0 && is_on r.sound))
    where
      last : (b c : Bool) → (b || (c || true)) ≡ true
      last true c = refl
      last false true = refl
      last false false = refl

  by_edition : allowed_of d ≡ 0 → allowed_of r ≡ cond (edition_outside v) 5 (cond (asked_under_d v) 6 0)
  unfolding allowed_of tmds
  by_edition z = go (edition_outside v) refl (asked_under_d v) refl
    where
      p : Passed d
      p = passed d z

      go : (s : Bool) → edition_outside v ≡ s → (t : Bool) → asked_under_d v ≡ t → allowed_of r ≡ cond s 5 (cond t 6 0)
      go true e t h = rw (p.mode, five e)
      go false e true h = rw (p.mode, same_outside e, p.inside, six h)
      go false e false h =
          passing r (record { mode = p.mode; inside = same_outside e ∙ p.inside; apart = same_combined h ∙ p.apart; within = p.within; room = p.room })

  -- what is accepted is accepted under D
  pub allowed_under_d : VideoFits v → allowed_of r ≡ 0 → allowed_of d ≡ 0
  unfolding tmds
  allowed_under_d f z =
      let p = passed r z in
      let inside = refuted (video.is_edition_outside v) (video.edition_inside v f) in
      let apart = refuted (video.is_under_d v) (λ u. video.asked_under_e v f u.1 u.0) in
      passing d (record { mode = p.mode; inside = sym (same_outside inside) ∙ p.inside; apart = sym (same_combined apart) ∙ p.apart; within = p.within; room = p.room })

-- of a request, by its bytes
pub accepted_under_d : (r : Request) → Shaped r.matrix → VideoFits r.video → (read_of (as_bytes r)).refusal ≡ 0 → Says (request_in_edition 0x00 r)
accepted_under_d r s f z = said (request_in_edition 0x00 r) s ((in_hand (request_in_edition 0x00 r)).number s ∙ allowed_under_d r f (sym ((in_hand r).number s) ∙ z))

pub answered_by_edition : (r : Request) → Shaped r.matrix → (read_of (as_bytes (request_in_edition 0x00 r))).refusal ≡ 0
    → (read_of (as_bytes r)).refusal ≡ cond (edition_outside r.video) 5 (cond (asked_under_d r.video) 6 0)
answered_by_edition r s z = (in_hand r).number s ∙ by_edition r (sym ((in_hand (request_in_edition 0x00 r)).number s) ∙ z)
