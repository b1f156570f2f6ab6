-- A request in hand is judged as its bytes are. Assumes nothing.
--     in_hand       the theorem
--     Passed        what is known where no row of 4 to 6, 17 and 20 refuses a request in hand
use mathlib.Core.Path.{◌≡◌, refl, sym, ap, ◌∙◌, subst}
use mathlib.Core.Logic.{inl, inr, ⊎_elim}
use mathlib.Core.Bool.{Bool, true, false, cond, not, ◌&&◌, and-true}
use mathlib.Core.List.{List, ◌∷◌}
use Prim.Native.Nat.{ℕ, ◌<◌}
use native.Mathlib.Omega.{arith}
use lib.Dec.{eqb, leb}
use lib.ListN.{length, get_or}
use borrow.Author.Tests.{ne_eqb, not-false}
use Rattle.refusals.specs.Tests.{lowest, answer}
use Rattle.refusals.proofs.Tests.{none_at, none_in_stages}
use Rattle.video.specs.Video.{video_in}
use Rattle.video.specs.Modes.{offered}
use Rattle.video.proofs.Fits.{pixel_inside}
use Rattle.clock.specs.Clocks.{tmds}
use Rattle.clock.specs.Answers.{above_limit, clock_of}
use Rattle.blanking.specs.Found.{too_much}
use Rattle.sound.specs.Sound.{sound_of}
use Rattle.sound.proofs.Bodies as sound
use Rattle.wiring.proofs.Bodies as wiring
use Rattle.matrix.specs.declared.Matrix.{Matrix}
use Rattle.matrix.specs.Matrix.{no_matrix}
use Rattle.matrix.specs.Coefficient.{coefficient_bytes}
use Rattle.matrix.specs.Tests.{is_allowed, matrix_in_range}
use Rattle.matrix.proofs.Body.{all_within}
use Rattle.matrix.proofs.Held.{held, by_mode}
use Rattle.matrix.proofs.Pairs.{length_bytes}
use Rattle.request.specs.declared.Request.{Request}
use Rattle.request.specs.Numbered.{Checked, emptied}
use Rattle.request.specs.Sections.{Bodies}
use Rattle.request.specs.Request.{present, request_in}
use Rattle.request.specs.Read.{outside_in, combined_in, outside, combined, fields_tests, limits_tests, judged, limit_of, limited, read_of}
use Rattle.request.specs.Read.{hand_tests, allowed_of}
use Rattle.request.specs.Bytes.{matrix_body, bodies_of, as_bytes}
use Rattle.request.specs.ThereAndBack.{Shaped}
use Rattle.request.specs.Fits.{Fits}
use Rattle.request.specs.Hand.{Says, InHand}
use Rattle.request.proofs.Inside.{Inside, each_inside}
use Rattle.request.proofs.Said.{read_judged, said}
use Rattle.request.proofs.Fits.{fits}
use Rattle.request.proofs.Ordered.{limit_is}

-- ---- the matrix in hand and its body

bare : (m : Matrix) → Shaped m → eqb (length (matrix_body m)) 0 ≡ eqb m.on 0
bare m (inl e) = rw e
bare m (inr f) = rw f.on (ne_eqb (length (m.mode ∷ coefficient_bytes m.coefficients)) 0 (omega arith))

-- a body of twelve fields is allowed where its mode is
by_body : (mode : ℕ) (cs : List ℕ) → length cs ≡ 12 → ((i : ℕ) → get_or cs i 0 < 8192) → is_allowed (mode ∷ coefficient_bytes cs) ≡ leb mode 2
unfolding is_allowed
by_body mode cs twelve small =
    let l : length (mode ∷ coefficient_bytes cs) ≡ 25 = omega (arith, length_bytes cs) in
    rw (l, all_within cs small) (and-true (leb mode 2))

none_spoiled : matrix_in_range no_matrix ≡ true
unfolding matrix_in_range
none_spoiled = refl

spoiled : (m : Matrix) → Shaped m → (present (matrix_body m) && not (is_allowed (matrix_body m))) ≡ not (matrix_in_range m)
spoiled m (inl e) = rw (e, none_spoiled)
spoiled m (inr f) =
    let b : matrix_body m ≡ m.mode ∷ coefficient_bytes m.coefficients = rw f.on in
    let p : eqb (length (m.mode ∷ coefficient_bytes m.coefficients)) 0 ≡ false = ne_eqb (length (m.mode ∷ coefficient_bytes m.coefficients)) 0 (omega arith) in
    rw (b, p, by_body m.mode m.coefficients f.twelve f.small, by_mode m f.on f.small)

shaped : (m : Matrix) → length m.coefficients ≡ 12 → matrix_in_range m ≡ true → Shaped m
shaped m l t = ⊎_elim (λ e. inl e) (λ w. inr (record { on = w.on; mode = omega (arith, w.mode); twelve = w.twelve; small = w.each })) (held m l t)

-- ---- the stages

-- what is judged, by its number
its_number : (b : Bodies) → (limited (judged b)).refusal ≡ cond (eqb (lowest (fields_tests b)) 0) (limit_of (video_in b.video) (sound_of b.audio)) (lowest (fields_tests b))
unfolding judged
its_number b = go (lowest (fields_tests b))
  where
    go : (n : ℕ) → (limited (answer n emptied (record { refusal = 0; request = request_in b }))).refusal ≡ cond (eqb n 0) (limit_of (video_in b.video) (sound_of b.audio)) n
    go n = by (eqb n 0) refl
      where
        by : (t : Bool) → eqb n 0 ≡ t
            → (limited (cond t (record { refusal = 0; request = request_in b }) (emptied n))).refusal ≡ cond t (limit_of (video_in b.video) (sound_of b.audio)) n
        by true e = refl
        by false e = rw e

module _ (r : Request) where
  abbrev pub out : Bool
  out = outside_in r.wiring r.video r.sound (not (matrix_in_range r.matrix))

  abbrev pub together : Bool
  together = combined_in r.wiring r.video r.sound (eqb r.matrix.on 0)

  -- the rows of the bodies are those of the record
  same_outside : Shaped r.matrix → outside (bodies_of r) ≡ out
  unfolding outside
  same_outside s = rw ((wiring.bodies).back r.wiring, (sound.bodies).back r.sound, spoiled r.matrix s)

  same_combined : Shaped r.matrix → combined (bodies_of r) ≡ together
  unfolding combined
  same_combined s = rw ((wiring.bodies).back r.wiring, (sound.bodies).back r.sound, bare r.matrix s)

  judged_in_hand : Shaped r.matrix → (limited (judged (bodies_of r))).refusal ≡ allowed_of r
  unfolding allowed_of
  judged_in_hand s = its_number (bodies_of r) ∙ rw (same_outside s, same_combined s, (sound.bodies).back r.sound)

  number : Shaped r.matrix → (read_of (as_bytes r)).refusal ≡ allowed_of r
  number s = ap (λ (c : Checked). c.refusal) (read_judged r s) ∙ judged_in_hand s

  -- what none of them refuses, and back
  pub record Passed : Type 0 where
    pub mode : offered r.video ≡ true
    pub inside : out ≡ false
    pub apart : together ≡ false
    pub within : above_limit (tmds r.video) ≡ false
    pub room : too_much r.video r.sound ≡ false

  inside_each : out ≡ false → Inside r.wiring r.video r.sound (not (matrix_in_range r.matrix))
  inside_each = each_inside r.wiring r.video r.sound (not (matrix_in_range r.matrix))

  limited_by : offered r.video ≡ true → out ≡ false → eqb (clock_of r.video).refusal 17 ≡ above_limit (tmds r.video)
  limited_by o i = limit_is r.video o (pixel_inside r.video (inside_each i).video)

  pub passed : allowed_of r ≡ 0 → Passed
  unfolding allowed_of
  passed z =
      let n = none_in_stages (λ n. n) (limit_of r.video r.sound) (λ n. n) (lowest (hand_tests r)) refl z in
      let mode = not-false (offered r.video) (none_at (hand_tests r) 0 n.0) in
      let inside = none_at (hand_tests r) 1 n.0 in
      record {
        mode = mode;
        inside = inside;
        apart = none_at (hand_tests r) 2 n.0;
        within = sym (limited_by mode inside) ∙ none_at (limits_tests r.video r.sound) 0 n.1;
        room = none_at (limits_tests r.video r.sound) 1 n.1;
      }

  pub passing : Passed → allowed_of r ≡ 0
  unfolding allowed_of
  passing p = rw (p.mode, p.inside, p.apart, limited_by p.mode p.inside, p.within, p.room)

  module _ (twelve : length r.matrix.coefficients ≡ 12) (z : allowed_of r ≡ 0) where
    its_shape : Shaped r.matrix
    its_shape = shaped r.matrix twelve
        (not-false _ (inside_each (passed z).inside).matrix)

    says : Says r
    says = said r its_shape (number its_shape ∙ z)

  fitting : Says r → Fits r
  fitting e = subst Fits (ap (λ (c : Checked). c.request) e) (fits (as_bytes r) (ap (λ (c : Checked). c.refusal) e))

  pub in_hand : InHand r
  in_hand =
      record {
        number = number;
        says = says;
        said = λ e. sym (number (fitting e).matrix) ∙ ap (λ (c : Checked). c.refusal) e;
        fits = λ l z. fitting (says l z);
      }
