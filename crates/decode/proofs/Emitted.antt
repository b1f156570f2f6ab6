-- Bytes stored section by section are the bytes of a request. `sets d at xs` of lib.Seq is d with xs stored from index at. Assumes nothing.
use mathlib.Core.Path.{◌≡◌, refl, sym, ap, ap₂, ◌∙◌}
use mathlib.Core.Bool.{Bool, true, false, cond}
use mathlib.Core.List.{List, [], ◌∷◌}
use Prim.Native.Nat.{ℕ, suc, ◌+◌, ◌≤◌}
use native.Mathlib.Omega.{arith}
use lib.Dec.{eqb, lit≤}
use lib.ListN.{length, length-append}
use lib.Seq.{sets, length-sets}
use Rattle.lists.proofs.Emit.{sets_append, sets_front}
use Rattle.wiring.specs.declared.Wiring.{Wiring}
use Rattle.wiring.specs.declared.Wiring.TheVariants.{Board, Four, Twelve}
use Rattle.wiring.specs.Kinds.{twelve_count}
use Rattle.wiring.specs.Wiring.{wiring_body}
use Rattle.video.specs.Video.{video_body}
use Rattle.matrix.specs.declared.Matrix.{Matrix}
use Rattle.matrix.specs.Coefficient.{coefficient_bytes}
use Rattle.matrix.proofs.Pairs.{length_bytes}
use Rattle.sound.specs.Sound.{audio_count, audio_body}
use Rattle.sound.specs.declared.Sound.{Sound}
use Rattle.sound.specs.declared.Sound.TheVariants.{Off, On}
use Rattle.request.specs.declared.Request.{Request}
use Rattle.request.specs.Sections.{matrix_count, longest}
use Rattle.request.specs.Bytes.{laid, matrix_body, bodies_of, as_bytes}
use Rattle.request.specs.Sections as sections
use Rattle.decode.specs.Decode.{in_front}

-- a section that is stored leaves as many bytes
pub same_length : (d body : List ℕ) (at : ℕ) {after : List ℕ} → after ≡ sets d at (length body ∷ body) → length after ≡ length d
same_length d body at e = ap length e ∙ length-sets d at (length body ∷ body)

-- sections stored one after another, from a place on
abbrev pub in_turn : List ℕ → ℕ → List (List ℕ) → List ℕ
in_turn d place [] = d
in_turn d place (b ∷ bs) = in_turn (sets d place (length b ∷ b)) (place + suc (length b)) bs

pub emitted : (d : List ℕ) (place : ℕ) (bodies : List (List ℕ)) → in_turn d place bodies ≡ sets d place (laid bodies [])
emitted d place [] = refl
emitted d place (b ∷ bs) =
    emitted (sets d place (length b ∷ b)) (place + suc (length b)) bs ∙ sym (sets_append (length b ∷ b) (laid bs []) d place)

-- ---- a request

pub wiring_room : (w : Wiring) → length (wiring_body w) ≤ twelve_count
wiring_room Board = lit≤ tt
wiring_room (Four i d s j) = lit≤ tt
wiring_room (Twelve i d s j a b c e) = lit≤ tt

pub audio_room : (s : Sound) → length (audio_body s) ≤ audio_count
audio_room Off = lit≤ tt
audio_room (On rate channels coherent) = lit≤ tt

matrix_room : (m : Matrix) → length m.coefficients ≡ 12 → length (matrix_body m) ≤ matrix_count
matrix_room m h = go (eqb m.on 0)
  where
    go : (b : Bool) → length (cond b [] (m.mode ∷ coefficient_bytes m.coefficients)) ≤ matrix_count
    go true = lit≤ tt
    go false = omega (arith, length_bytes m.coefficients)

-- the bytes that bodies take with their counts
abbrev total : List (List ℕ) → ℕ
total [] = 0
total (b ∷ bs) = suc (length b) + total bs

laid_length : (bodies : List (List ℕ)) → length (laid bodies []) ≡ total bodies
laid_length [] = refl
laid_length (b ∷ bs) = omega (arith, length-append b (laid bs []), laid_length bs)

pub requested : (q : Request) (d : List ℕ) {d₁ d₂ d₃ d₄ video : List ℕ} {p₁ p₂ p₃ p₄ : ℕ} → longest ≤ length d → length q.matrix.coefficients ≡ 12
    → video ≡ video_body q.video
    → (p₁ ≡ 0 + suc (length (wiring_body q.wiring))) × (d₁ ≡ sets d 0 (length (wiring_body q.wiring) ∷ wiring_body q.wiring))
    → (p₂ ≡ p₁ + suc (length video)) × (d₂ ≡ sets d₁ p₁ (length video ∷ video))
    → (p₃ ≡ p₂ + suc (length (audio_body q.sound))) × (d₃ ≡ sets d₂ p₂ (length (audio_body q.sound) ∷ audio_body q.sound))
    → (p₄ ≡ p₃ + suc (length (matrix_body q.matrix))) × (d₄ ≡ sets d₃ p₃ (length (matrix_body q.matrix) ∷ matrix_body q.matrix))
    → ((p₄ ≡ length (as_bytes q)) × (p₄ ≤ longest)) × (d₄ ≡ in_front (as_bytes q) d)
unfolding as_bytes
requested q d {video = video} room twelve v e f g h =
    let w : List ℕ = wiring_body q.wiring in
    let a : List ℕ = audio_body q.sound in
    let m : List ℕ = matrix_body q.matrix in
    let bs : List (List ℕ) = sections.in_turn (bodies_of q) in
    let n : length (laid bs []) ≡ total bs = laid_length bs in
    let l = ap length v in
    let x = audio_room q.sound in
    let y = matrix_room q.matrix twelve in
    let z = wiring_room q.wiring in (
      (omega (arith, e.0, f.0, g.0, h.0), omega (arith, e.0, f.0, g.0, h.0)),
      h.1
          ∙ ap₂ (λ (b : List ℕ) (p : ℕ). sets b p (length m ∷ m)) g.1 g.0
          ∙ ap₂ (λ (b : List ℕ) (p : ℕ). sets (sets b p (length a ∷ a)) (p + suc (length a)) (length m ∷ m)) f.1 f.0
          ∙ ap₂ (λ (b : List ℕ) (p : ℕ). in_turn b p (video ∷ a ∷ m ∷ [])) e.1 e.0
          ∙ ap (λ (u : List ℕ). in_turn d 0 (w ∷ u ∷ a ∷ m ∷ [])) v
          ∙ emitted d 0 bs ∙ sets_front (laid bs []) d (omega arith),
    )
