-- The bytes of the request that is read from an input are the input. Assumes nothing.
use mathlib.Core.Path.{◌≡◌, refl, sym, ap, ap₂, ◌∙◌, subst}
use mathlib.Core.Logic.{◌⊎◌, inl, inr}
use mathlib.Core.Bool.{Bool, true, false, cond, not, ◌&&◌, ◌||◌}
use mathlib.Core.List.{List, [], ◌∷◌, ◌++◌}
use Prim.Native.Nat.{ℕ, zero, suc, ◌+◌, ◌%◌, ◌<◌, ◌≤◌}
use native.Mathlib.Omega.{arith}
use lib.Dec.{eqb, leb, ltb, lit<}
use lib.ListN.{length, drop, length-drop}
use Rattle.std.proofs.lemmas.List.{nil_from_length}
use lib.Seq.{get_or-append-add, get_or-drop, drop-cons}
use borrow.Author.Tests.{eqb-true, leb-true, ltb-true, lt-ltb, le-ltb, not-false}
use Rattle.lists.proofs.Both.{both_left, both_right}
use Rattle.matrix.specs.Coefficient.{word, low_thirteen, high_byte, coefficient_bytes}
use Rattle.matrix.specs.Tests.{within}
use Rattle.matrix.specs.Matrix.{fields, matrix_of, no_matrix, Bytes}
use Rattle.matrix.specs.Tests.{in_range, is_allowed}
use Rattle.matrix.proofs.Pairs.{ranged}
use Rattle.refusals.specs.Tests.{answer}
use Rattle.wiring.specs.Wiring.{wiring_in, wiring_body}
use Rattle.wiring.proofs.Bodies as wiring
use Rattle.video.specs.Video.{video_in, video_body, answered}
use Rattle.video.proofs.Bodies as video
use Rattle.sound.specs.Sound.{sound_of, audio_body}
use Rattle.sound.proofs.Bodies as sound
use Rattle.request.specs.declared.Request.{Request}
use Rattle.request.specs.Numbered.{Checked, emptied}
use Rattle.request.specs.Sections.{matrix_count, Bodies, in_turn, by_name, bodies_in, Walk, ends, not_allowed, whole, walked}
use Rattle.request.specs.Bytes.{laid, matrix_body, as_bytes, answered_as, as_read_back}
use Rattle.request.specs.Walks.{Sectioned}
use Rattle.request.specs.Request.{present, request_in}
use Rattle.request.specs.Read.{outside, judged, checked, read_of}
use Rattle.request.specs.ThereAndBack.{Shaped, ThereAndBack}
use Rattle.request.proofs.Inside.{bodies_inside}
use Rattle.request.proofs.Opened.{sectioned, request_walks}
use Rattle.request.proofs.Ordered.{both, passed}
use Rattle.request.proofs.Said.{new_video_lem, said}
use Rattle.request.proofs.Fits.{fits}

-- ---- each body is that of what it says

pair_back : (x y : ℕ) → x < 256 → y < 256 → within (word x y) ≡ true → (high_byte (low_thirteen (word x y)) ≡ x) × (low_thirteen (word x y) % 256 ≡ y)
pair_back x y h k t = go (ltb (word x y) 4096) refl t
  where
    go : (b : Bool) → ltb (word x y) 4096 ≡ b → (b || leb 61440 (word x y)) ≡ true → (high_byte (low_thirteen (word x y)) ≡ x) × (low_thirteen (word x y) % 256 ≡ y)
    go true e f =
        let l : word x y < 4096 = ltb-true _ _ e in
        (rw (lt-ltb (low_thirteen (word x y)) 4096 (omega arith)) (omega arith), omega arith)
    go false e f =
        let l : 61440 ≤ word x y = leb-true 61440 (word x y) f in
        (rw (le-ltb (low_thirteen (word x y)) 4096 (omega arith)) (omega arith), omega arith)

abbrev double : ℕ → ℕ
double zero = zero
double (suc n) = suc (suc (double n))

coefficients_back : (n : ℕ) (l : List ℕ) → length l ≡ double n → Bytes l → in_range l ≡ true → coefficient_bytes (fields l) ≡ l
unfolding fields in_range
coefficients_back zero [] e b t = refl
coefficients_back zero (x ∷ l) e b t = absurd (omega arith)
coefficients_back (suc n) [] e b t = absurd (omega arith)
coefficients_back (suc n) (x ∷ []) e b t = absurd (omega arith)
coefficients_back (suc n) (x ∷ y ∷ l) e b t =
    let p = pair_back x y (b 0) (b 1) (both_left _ (in_range l) t) in
    let ih : coefficient_bytes (fields l) ≡ l = coefficients_back n l (omega arith) (λ i. b (suc (suc i))) (both_right (within (word x y)) _ t) in
    rw (p.0, p.1, ih)

matrix_back : (m : List ℕ) → Bytes m → (length m ≡ 0) ⊎ (length m ≡ matrix_count) → (present m && not (is_allowed m)) ≡ false
    → matrix_body (cond (present m) (matrix_of m) no_matrix) ≡ m
matrix_back m b (inl e) x = rw (nil_from_length m e)
matrix_back m b (inr e) x =
    let y : not (is_allowed m) ≡ false = subst (λ (n : ℕ). (not (eqb n 0) && not (is_allowed m)) ≡ false) e x in
    let l : length (drop 1 m) ≡ double 12 = rw (length-drop 1 m, e) in
    let r : in_range (drop 1 m) ≡ true = ranged m (not-false (is_allowed m) y) in
    let c : coefficient_bytes (fields (drop 1 m)) ≡ drop 1 m = coefficients_back 12 (drop 1 m) l (λ i. rw (get_or-drop 1 m i 0) (b (1 + i))) r in
    rw (e, c) (sym (drop-cons m 0 0 (omega arith)))

-- ---- the whole input

-- what comes after a count and a body
past : (n : ℕ) (xs ys : List ℕ) → Bytes (n ∷ (xs ++ ys)) → Bytes ys
past n xs ys b i = subst (λ (x : ℕ). x < 256) (get_or-append-add xs ys i 0) (b (suc (length xs + i)))

front : (n : ℕ) (xs ys : List ℕ) → Bytes (n ∷ (xs ++ ys)) → Bytes xs
front n [] ys b i = lit< tt
front n (x ∷ xs) ys b zero = b 1
front n (x ∷ xs) ys b (suc i) = front x xs ys (λ j. b (suc j)) i

nothing_after : (rest : List ℕ) (c : Checked) → (answer (cond (present rest) 3 0) emptied c).refusal ≡ 0 → rest ≡ []
nothing_after rest c = go (eqb (length rest) 0) refl
  where
    go : (b : Bool) → eqb (length rest) 0 ≡ b → (answer (cond (not b) 3 0) emptied c).refusal ≡ 0 → rest ≡ []
    go true e z = nil_from_length rest (eqb-true _ _ e)
    go false e z = absurd (omega arith)

module _ (input : List ℕ) (bytes : Bytes input) where
  bodies : (b : Bodies) (rest : List ℕ) → Sectioned input b rest → rest ≡ [] → outside b ≡ false → as_bytes (request_in b) ≡ input
  unfolding as_bytes
  bodies b rest s n o =
      let w : List ℕ = b.wiring in
      let v : List ℕ = b.video in
      let a : List ℕ = b.audio in
      let m : List ℕ = b.matrix in
      let all : Bytes (laid (in_turn b) rest) = subst Bytes s.made bytes in
      let end : Bytes m = front (length m) m rest (past (length a) a _ (past (length v) v _ (past (length w) w _ all))) in
      let its_wiring : wiring_body (wiring_in w) ≡ w = (wiring.bodies).whole w (front (length w) w _ all) s.wiring_counted in
      let its_matrix : matrix_body (cond (present m) (matrix_of m) no_matrix) ≡ m = matrix_back m end s.matrix_counted (bodies_inside b o).matrix in
      ap₂ (λ (x y : List ℕ). laid (x ∷ y ∷ audio_body (sound_of a) ∷ matrix_body (cond (present m) (matrix_of m) no_matrix) ∷ []) []) its_wiring ((video.bodies).whole v s.video_counted)
      ∙ ap₂ (λ (x y : List ℕ). laid (w ∷ v ∷ x ∷ y ∷ []) []) ((sound.bodies).whole a s.audio_counted) its_matrix
      ∙ ap (λ (r : List ℕ). laid (w ∷ v ∷ a ∷ m ∷ []) r) (sym n) ∙ sym s.made

  found : (w : Walk) → walked input ≡ w → (checked w).refusal ≡ 0 → outside (bodies_in w) ≡ false → as_bytes (request_in (bodies_in w)) ≡ input
  found ends e z o = absurd (omega arith)
  found not_allowed e z o = absurd (omega arith)
  found (whole bs rest) e z o =
      let n : rest ≡ [] = nothing_after rest (judged (by_name bs)) z in
      let w : walked input ≡ whole (in_turn (by_name bs)) rest = e ∙ ap (λ (l : List (List ℕ)). whole l rest) (sym ((request_walks input).each bs rest e)) in
      bodies (by_name bs) rest (sectioned input (by_name bs) rest w) n o

  pub back : (read_of input).refusal ≡ 0 → as_bytes (read_of input).request ≡ input
  unfolding read_of
  back z =
      let j = passed (walked input) z in
      ap as_bytes j.request ∙ found (walked input) refl (both (checked (walked input)) z).0 j.inside

-- of an input as it is answered the video section alone is another
reads_back : (r : Request) → Shaped r.matrix → as_bytes (answered_as r) ≡ as_read_back (as_bytes r)
unfolding as_bytes
reads_back r s = sym (new_video_lem r s (λ body. video_body (answered (video_in body))))

pub there_and_back : ThereAndBack
there_and_back =
    record {
      there = λ r s z. ap (λ (c : Checked). c.request) (said r s z);
      back = back;
      answered = λ input b z. reads_back (read_of input).request (fits input z).matrix ∙ ap as_read_back (back input b z);
    }
