-- The bytes of a meter's matrix in a request, and in the preview: any matrix section that is allowed is taken. Assumes nothing.
use mathlib.Core.Path.{◌≡◌, refl, sym, ap, ◌∙◌, subst}
use mathlib.Core.Bool.{Bool, true, false, ◌&&◌, ◌||◌}
use mathlib.Core.List.{List, ◌∷◌}
use Prim.Native.Nat.{ℕ, ◌≤◌}
use lib.Dec.{eqb}
use lib.Ieee.{Float}
use borrow.Author.Tests.{le-ltb, le-leb}
use Rattle.lists.proofs.Both.{neither_left, neither_right}
use Rattle.refusals.specs.Tests.{lowest}
use Rattle.refusals.proofs.Tests.{numbered}
use Rattle.wiring.specs.Kinds.{rgb_in}
use Rattle.wiring.specs.Wiring.{wires_of}
use Rattle.wiring.specs.Tests.{wiring_outside}
use Rattle.video.specs.Tests.{video_outside}
use Rattle.matrix.specs.declared.Matrix.{Matrix}
use Rattle.matrix.specs.Coefficient.{coefficient_bytes}
use Rattle.matrix.specs.Body.{body_of, Whole}
use Rattle.matrix.specs.Tests.{is_allowed}
use Rattle.matrix.specs.Preview.{no_pixel, preview_tests, preview_of}
use Rattle.matrix.proofs.Body.{unmoved, body_back}
use Rattle.matrix.proofs.Held.{by_mode}
use Rattle.meter.proofs.Rule.{laid_matrix}
use Rattle.sound.specs.Tests.{sound_outside}
use Rattle.request.specs.declared.Request.{Request}
use Rattle.request.specs.Numbered.{Checked}
use Rattle.request.specs.Request.{rgb_out}
use Rattle.request.specs.Read.{converts_in, read_of, allowed_of}
use Rattle.request.specs.Bytes.{matrix_body, as_bytes}
use Rattle.request.specs.ThereAndBack.{Shaped}
use Rattle.request.specs.Hand.{Says}
use Rattle.request.proofs.Hand.{passed, passing, in_hand}
use Rattle.promises.specs.Metered.{bytes_with, asked_with, FromMeter}

-- a whole matrix in place of a request's own
put : Matrix → Request → Request
put m r = record { wiring = r.wiring; video = r.video; sound = r.sound; matrix = m }

-- no row refuses it that does not refuse the request
another : (r : Request) (m : Matrix) → Whole m → allowed_of r ≡ 0 → allowed_of (put m r) ≡ 0
unfolding put
another r m w z =
    let p = passed r z in
    let x : Bool = wiring_outside r.wiring in
    let v : Bool = video_outside r.video in
    let c : Bool = converts_in (rgb_in (wires_of r.wiring).input) (rgb_out r.video) in
    let u = neither_left x _ p.inside in
    let o = neither_left v _ (neither_right x _ p.inside) in
    let s = neither_left (sound_outside r.sound) _ (neither_right v _ (neither_right x _ p.inside)) in
    passing (put m r) (record {
      mode = p.mode;
      inside = rw (u, o, s, by_mode m w.on w.each, le-leb m.mode 2 w.mode);
      apart = rw w.on (last c (neither_right (c && eqb r.matrix.on 0) _ p.apart));
      within = p.within;
      room = p.room;
    })
  where
    last : (b : Bool) {c : Bool} → c ≡ false → ((b && false) || c) ≡ false
    last true e = e
    last false e = e

own_body : (m : Matrix) → Whole m → matrix_body m ≡ body_of m
own_body m w = rw w.on (ap (λ (cs : List ℕ). m.mode ∷ coefficient_bytes cs) (sym (unmoved m.coefficients w.each)))

taken : (r : Request) (m : Matrix) → Shaped r.matrix → Whole m → (read_of (as_bytes r)).refusal ≡ 0 → Says (put m r)
unfolding put
taken r m s w z = (in_hand (put m r)).says w.twelve (another r m w (sym ((in_hand r).number s) ∙ z))

in_request : (r : Request) (m : Matrix) → Shaped r.matrix → Whole m → (read_of (as_bytes r)).refusal ≡ 0
    → read_of (bytes_with (body_of m) r) ≡ record { refusal = 0; request = asked_with (body_of m) r }
unfolding put as_bytes
in_request r m s w z =
    ap (λ (b : List ℕ). read_of (bytes_with b r)) (sym (own_body m w))
    ∙ taken r m s w z
    ∙ ap (λ (x : Matrix). the (put x r)) (sym (body_back m w).back)
  where
    the : Request → Checked
    the q = record { refusal = 0; request = q }

-- ---- and in the preview
in_preview : (body : List ℕ) (a b c : ℕ) → is_allowed body ≡ true → a ≤ 4095 → b ≤ 4095 → c ≤ 4095 → (preview_of body a b c).refusal ≡ 0
unfolding preview_of
in_preview body a b c e x y z =
    numbered no_pixel _ (λ p. p.refusal) (lowest (preview_tests body a b c)) (λ _. refl) refl
    ∙ rw (e, le-ltb 4095 a x, le-ltb 4095 b y, le-ltb 4095 c z) refl

pub from_meter : (numbers : List Float) (buffer : List ℕ) → FromMeter numbers buffer
from_meter numbers buffer = record {
  request = λ z r s y.
      let laid = laid_matrix numbers buffer z in
      subst (λ (body : List ℕ). read_of (bytes_with body r) ≡ record { refusal = 0; request = asked_with body r }) (sym laid.front)
      (in_request r laid.matrix s laid.whole y);
  preview = λ z a b c h k l.
      let laid = laid_matrix numbers buffer z in
      in_preview _ a b c (ap is_allowed laid.front ∙ (body_back laid.matrix laid.whole).allowed) h k l;
}
