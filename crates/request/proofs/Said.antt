-- The bytes of a request, where no row refuses them, say that request. Assumes nothing.
use mathlib.Core.Path.{◌≡◌, refl, sym, ap, ap₂, ◌∙◌}
use mathlib.Core.Logic.{inl, inr}
use mathlib.Core.Bool.{true, cond}
use mathlib.Core.List.{List, [], ◌∷◌}
use Prim.Native.Nat.{ℕ}
use native.Mathlib.Omega.{arith}
use lib.ListN.{length}
use borrow.Author.Tests.{ne_eqb}
use Rattle.lists.specs.Among.{among}
use Rattle.wiring.specs.declared.Wiring.{Wiring}
use Rattle.wiring.specs.declared.Wiring.TheVariants.{Board, Four, Twelve}
use Rattle.wiring.specs.Kinds.{four_count, twelve_count}
use Rattle.wiring.specs.Wiring.{wiring_body}
use Rattle.wiring.proofs.Bodies as wiring
use Rattle.video.specs.Video.{video_body}
use Rattle.sound.specs.declared.Sound.{Sound}
use Rattle.sound.specs.declared.Sound.TheVariants.{Off, On}
use Rattle.sound.specs.Sound.{audio_count, audio_body}
use Rattle.sound.proofs.Bodies as sound
use Rattle.matrix.specs.declared.Matrix.{Matrix}
use Rattle.matrix.specs.Coefficient.{coefficient_bytes}
use Rattle.matrix.specs.Matrix.{matrix_of, no_matrix}
use Rattle.matrix.proofs.Pairs.{length_bytes, fields_said}
use Rattle.request.specs.declared.Request.{Request}
use Rattle.request.specs.Numbered.{Checked}
use Rattle.request.specs.Sections.{matrix_count, in_turn, bodies_in, Walk, whole, walked, sections}
use Rattle.request.specs.Walks.{fits}
use Rattle.request.specs.Request.{present, request_in}
use Rattle.request.specs.Read.{judged, checked, limited, read_of}
use Rattle.request.specs.Bytes.{matrix_body, bodies_of, laid, as_bytes, with_video, new_video}
use Rattle.request.specs.ThereAndBack.{Shaped}
use Rattle.request.proofs.Walks.{walks}
use Rattle.request.proofs.Ordered.{accepted}

-- ---- each body has a count that its section allows, and says what it was made of

wiring_counted_lem : (w : Wiring) → among (length (wiring_body w)) (0 ∷ four_count ∷ twelve_count ∷ []) ≡ true
wiring_counted_lem Board = refl
wiring_counted_lem (Four i d s j) = refl
wiring_counted_lem (Twelve i d s j a b c e) = refl

audio_counted_lem : (s : Sound) → among (length (audio_body s)) (0 ∷ audio_count ∷ []) ≡ true
audio_counted_lem Off = refl
audio_counted_lem (On rate channels coherent) = refl

matrix_counted_lem : (m : Matrix) → Shaped m → among (length (matrix_body m)) (0 ∷ matrix_count ∷ []) ≡ true
matrix_counted_lem m (inl e) = rw e
matrix_counted_lem m (inr f) =
    let l : length (m.mode ∷ coefficient_bytes m.coefficients) ≡ matrix_count = omega (arith, length_bytes m.coefficients, f.twelve) in
    rw (f.on, l)

matrix_said_lem : (m : Matrix) → Shaped m → cond (present (matrix_body m)) (matrix_of (matrix_body m)) no_matrix ≡ m
matrix_said_lem m (inl e) = rw e
matrix_said_lem m (inr f) =
    rw (f.on, ne_eqb (length (m.mode ∷ coefficient_bytes m.coefficients)) 0 (omega arith), fields_said m.coefficients f.small, ← f.on)

module _ (r : Request) (s : Shaped r.matrix) where
  pub bytes_walked : walked (as_bytes r) ≡ whole (in_turn (bodies_of r)) []
  unfolding walked as_bytes
  bytes_walked =
      let f : fits sections (in_turn (bodies_of r)) ≡ true = rw (wiring_counted_lem r.wiring, audio_counted_lem r.sound, matrix_counted_lem r.matrix s) in
      ((walks sections (as_bytes r)).whole (in_turn (bodies_of r)) []).1 (f, refl)

  -- another video section in them
  pub new_video_lem : (f : List ℕ → List ℕ) → new_video f (as_bytes r) ≡ laid (in_turn (with_video (f (video_body r.video)) (bodies_of r))) []
  new_video_lem f =
      let at : Walk → List ℕ = λ w. laid (in_turn (with_video (f (bodies_in w).video) (bodies_in w))) [] in
      ap at bytes_walked

  -- reading the bytes of a request is judging its bodies
  pub read_judged : read_of (as_bytes r) ≡ limited (judged (bodies_of r))
  unfolding read_of
  read_judged = ap (λ (w : Walk). limited (checked w)) bytes_walked

  pub said : (read_of (as_bytes r)).refusal ≡ 0 → read_of (as_bytes r) ≡ record { refusal = 0; request = r }
  said z =
      let q : request_in (bodies_of r) ≡ r = rw ((wiring.bodies).back r.wiring, (sound.bodies).back r.sound, matrix_said_lem r.matrix s) in
      let y : (limited (judged (bodies_of r))).refusal ≡ 0 = ap (λ (c : Checked). c.refusal) (sym read_judged) ∙ z in
      read_judged ∙ ap₂ (λ (n : ℕ) (x : Request). the (n, x)) y ((accepted (bodies_of r) y).request ∙ q)
    where
      the : ℕ × Request → Checked
      the p = record { refusal = p.0; request = p.1 }
