-- What decoding answers, and when: the theorems of `specs/Theorems.antt`. Assumes nothing.
use mathlib.Core.Path.{◌≡◌, refl, sym, ap, ◌∙◌, subst}
use mathlib.Core.Logic.{◌≢◌, ◌⊎◌, inl, inr}
use mathlib.Core.Bool.{Bool, true, false, false≢true, cond, not, ◌||◌}
use mathlib.Core.List.{List, [], ◌∷◌}
use Prim.Native.Nat.{ℕ, zero, suc, ◌+◌, ◌*◌, ◌/◌, ◌%◌, ◌<◌, ◌≤◌}
use native.Mathlib.Nat.{eq-or-lt_of_le, le_of_suc-le-suc, not-suc-le-zero}
use native.Mathlib.Omega.{arith}
use lib.Dec.{eqb}
use lib.ListN.{length, get_or, take, drop, length-take, length-drop}
use borrow.Author.Tests.{eqb-true, eq-eqb, le-ltb, not-true, not-false}
use Rattle.lists.proofs.Both.{both_left, both_right}
use Rattle.lists.proofs.Decides.{Decides, equal, less, opposite}
use Rattle.refusals.specs.Tests.{Test}
use Rattle.refusals.proofs.Tests.{Decided, lowest_given, none_at, numbered, answer_none, answer_some}
use Rattle.bits.specs.Merge.{merge}
use Rattle.bits.proofs.Truth.{E, var, by, law}
use Rattle.registers.specs.Classes.{read_only, free, named, bits}
use Rattle.map.specs.Map as reg
use Rattle.video.specs.Video.{answered_edition}
use Rattle.video.proofs.Fits.{family_small}
use Rattle.matrix.specs.Matrix.{fields, no_matrix}
use Rattle.matrix.proofs.Pairs.{fields_small, length_fields}
use Rattle.request.specs.declared.Request.{Request}
use Rattle.request.specs.Numbered.{Checked}
use Rattle.request.specs.Sections.{longest}
use Rattle.request.specs.Read.{read_of}
use Rattle.request.specs.Bytes.{as_bytes, request_in_family, answered_as}
use Rattle.request.specs.ThereAndBack.{Shaped}
use Rattle.request.specs.Fits.{Fits}
use Rattle.plan.specs.Wanted.{wanted}
use Rattle.writes.specs.List.{byte, decided, written, is_written, finished}
use Rattle.decode.specs.Numbered.{Decoded, not_decoded}
use Rattle.decode.specs.Ends.{Acceptable, Stands, Ends}
use Rattle.decode.specs.Extract.{bits_at, matrix_in, data_in, extract}
use Rattle.writes.specs.List.{stands_below}
use Rattle.decode.specs.Decode.{some_ends, decode_tests, decode_refusal, decode_of, decoded_buffer}
use Rattle.decode.specs.Theorems.{Answered, ExactlyWhen, AtMostOne, decode_rules, Refusals}
use Rattle.decode.specs.ReadBack.{Ran, ReadBack}
use Rattle.request.proofs.Fits.{fits, twelve_there}
use Rattle.request.proofs.Hand.{in_hand}
use Rattle.plan.specs.Plan.{stands_in}
use Rattle.plan.proofs.Stood.{stood, standing}
use Rattle.request.proofs.Back.{back, there_and_back}
use Rattle.decode.proofs.Extracted.{extracted}
use Rattle.decode.proofs.Unasked.{unasked}

-- ---- the test of `Stands`

module _ (r : Request) (image : List ℕ) where
  stands_tested : (n : ℕ) → ((a : ℕ) → a < n → finished (wanted r) image a ≡ get_or image a 0) → stands_below (wanted r) image n ≡ true
  unfolding stands_below
  stands_tested zero f = refl
  stands_tested (suc n) f = rw (eq-eqb (finished (wanted r) image n) (get_or image n 0) (f n (omega arith))) (stands_tested n (λ a h. f a (omega arith)))

  test_stands : (n : ℕ) → stands_below (wanted r) image n ≡ true → (a : ℕ) → a < n → finished (wanted r) image a ≡ get_or image a 0
  unfolding stands_below
  test_stands zero t a h = absurd (not-suc-le-zero h)
  test_stands (suc n) t a h =
      go (eq-or-lt_of_le (le_of_suc-le-suc h)) (test_stands n (both_right (eqb (finished (wanted r) image n) (get_or image n 0)) _ t) a)
    where
      go : (a ≡ n) ⊎ (a < n) → (a < n → finished (wanted r) image a ≡ get_or image a 0) → finished (wanted r) image a ≡ get_or image a 0
      go (inl e) ih = rw e (eqb-true _ _ (both_left _ (stands_below (wanted r) image n) t))
      go (inr l) ih = ih l

-- an acceptable request has its fields in range
acceptable_fits : (r : Request) → Acceptable r → Fits r
acceptable_fits r a = subst Fits (ap (λ (c : Checked). c.request) a.read) (fits (as_bytes r) (ap (λ (c : Checked). c.refusal) a.read))

-- ---- one family

ends_tested : (q : Request) (image : List ℕ) → length image ≡ 256 → Acceptable q → Stands q image → stands_in q image ≡ true
ends_tested q image long a s =
    standing q image (record { allowed = (in_hand q).said a.read; sized = long; paired = a.paired; below = stands_tested q image 256 s })

test_ends : (r : Request) (f : ℕ) (image : List ℕ) → length r.matrix.coefficients ≡ 12 → answered_as r ≡ r → stands_in (request_in_family f r) image ≡ true → Ends r image
test_ends r f image l e t =
    let q : Request = request_in_family f r in
    let h = stood q image t in
    record {
      family = f;
      answered = e;
      acceptable = record { read = (in_hand q).says l h.allowed; paired = h.paired };
      stands = test_stands q image 256 h.below;
    }

-- what is answered is answered as it is
edition_twice : (byte : ℕ) → answered_edition (answered_edition byte) ≡ answered_edition byte
edition_twice byte = go (eqb byte 1) refl
  where
    go : (b : Bool) → eqb byte 1 ≡ b → answered_edition (cond b 0 byte) ≡ cond b 0 byte
    go true e = refl
    go false e = rw e

twice : (r : Request) → answered_as (answered_as r) ≡ answered_as r
twice r = rw (edition_twice r.video.edition)

-- ---- an image of 256 bytes

module _ (image : List ℕ) (long : length image ≡ 256) where
  pub shaped : Shaped (matrix_in image)
  shaped = go (eqb (bits_at 0x18 7 7 image) 0)
    where
      coefficients : List ℕ
      coefficients = take reg.csc_count (drop reg.csc image)

      l : length (take reg.csc_count (drop reg.csc image)) ≡ 24
      l = simp (length-take, length-drop, long)

      go : (b : Bool) → Shaped (cond b no_matrix (record { on = 1; mode = bits_at 0x18 6 5 image; coefficients = fields (take reg.csc_count (drop reg.csc image)) }))
      go true = inl refl
      go false = inr (record {
        on = refl;
        mode = omega arith;
        twelve = rw (length_fields (take reg.csc_count (drop reg.csc image)), l);
        small = fields_small (take reg.csc_count (drop reg.csc image));
      })

  named_as : answered_as (extract image) ≡ extract image
  unfolding extract
  named_as =
      let fifth : ℕ = get_or (data_in image) 4 0 in
      rw (edition_twice (1 + fifth / 64 % 4 * 4 + fifth / 16 % 4 * 16))

  pub found_ends : some_ends image ≡ true → Ends (extract image) image
  unfolding some_ends extract
  found_ends t = go (stands_in (request_in_family 0 (extract image)) image) refl t
    where
      go : (b : Bool) → stands_in (request_in_family 0 (extract image)) image ≡ b → (b || stands_in (request_in_family 1 (extract image)) image) ≡ true
          → Ends (extract image) image
      go true e t = test_ends (extract image) 0 image (twelve_there _ shaped) named_as e
      go false e t = test_ends (extract image) 1 image (twelve_there _ shaped) named_as t

  is_extracted : (r : Request) → Ends r image → extract image ≡ r
  is_extracted r e =
      extracted (request_in_family e.family r) image long (acceptable_fits (request_in_family e.family r) e.acceptable) e.stands ∙ e.answered

  ends_found : (r : Request) → Ends r image → some_ends image ≡ true
  unfolding some_ends
  ends_found r e = rw (is_extracted r e) (go e.family (family_small _ (acceptable_fits (request_in_family e.family r) e.acceptable).video) (ends_tested (request_in_family e.family r) image long e.acceptable e.stands))
    where
      right : (b : Bool) → (b || true) ≡ true
      right true = refl
      right false = refl

      go : (f : ℕ) → f < 2 → stands_in (request_in_family f r) image ≡ true
          → (stands_in (request_in_family 0 r) image || stands_in (request_in_family 1 r) image) ≡ true
      go zero h t = rw t
      go (suc zero) h t = rw t (right (stands_in (request_in_family 0 r) image))
      go (suc (suc f)) h t = absurd (omega arith)

  -- any request that is accepted and stands there ends there, as it is answered
  pub standing_ends : (r : Request) → Acceptable r → Stands r image → Ends (answered_as r) image
  standing_ends r t st =
      let u = unasked r (acceptable_fits r t) t in
      record {
        family = r.video.family;
        answered = twice r;
        acceptable = u.0;
        stands = λ a h. rw u.1 (st a h);
      }

pub at_most_one : (image : List ℕ) → AtMostOne image
at_most_one image =
    record {
      ends = λ long r q e f. sym (is_extracted image long r e) ∙ is_extracted image long q f;
      stands = λ long r q t s u f.
          sym (is_extracted image long (answered_as r) (standing_ends image long r t s)) ∙ is_extracted image long (answered_as q) (standing_ends image long q u f);
    }

-- ---- the refusals

module _ (image buffer : List ℕ) where
  pub none_ends : length image ≡ 256 → Decides (not (some_ends image)) ((r : Request) → Ends r image → ⊥)
  none_ends long = record {
    passes = λ t r e. false≢true (sym (not-true (some_ends image) t) ∙ ends_found image long r e);
    fails = λ f n. n (extract image) (found_ends image long (not-false (some_ends image) f));
  }

  each_decided : Decided (decode_tests image buffer) (decode_rules image buffer)
  each_decided = (
    refl,
    opposite (equal (length image) 256),
    λ m. (refl, less (length buffer) longest, λ _. (refl, none_ends (eqb-true _ _ (not-false (eqb (length image) 256) m)), λ _. tt)),
  )

  pub number_given : (decode_of image buffer).refusal ≡ decode_refusal image buffer
  unfolding decode_of
  number_given = numbered not_decoded _ (λ d. d.refusal) (decode_refusal image buffer) (λ _. refl) refl

  pub refusals : Refusals image buffer
  unfolding decode_of decoded_buffer decode_refusal
  refusals = record {
    given = rw number_given (lowest_given (decode_tests image buffer) (decode_rules image buffer) refl each_decided);
    unchanged = λ n. let h : decode_refusal image buffer ≢ 0 = λ e. n (number_given ∙ e) in
        (ap (λ (d : Decoded). d.count) (answer_some not_decoded _ (decode_refusal image buffer) h), answer_some (λ m. buffer) _ (decode_refusal image buffer) h);
  }

  -- where none is given
  answers : decode_refusal image buffer ≡ 0 → Answered (as_bytes (extract image)) image buffer
  unfolding decode_of decoded_buffer
  answers z = record { counted = answer_none not_decoded _ (decode_refusal image buffer) z; left = answer_none (λ n. buffer) _ (decode_refusal image buffer) z }

  pub accepted : decode_refusal image buffer ≡ 0 → (length image ≡ 256) × (some_ends image ≡ true)
  unfolding decode_refusal
  accepted z =
      let tests : List Test = decode_tests image buffer in
      (eqb-true _ _ (not-false (eqb (length image) 256) (none_at tests 0 z)), not-false (some_ends image) (none_at tests 2 z))

  pub none : length image ≡ 256 → longest ≤ length buffer → some_ends image ≡ true → decode_refusal image buffer ≡ 0
  unfolding decode_refusal
  none l h f = rw (eq-eqb (length image) 256 l, le-ltb (length buffer) longest h, f)

  each : length image ≡ 256 → longest ≤ length buffer → (r : Request) → Ends r image → Answered (as_bytes r) image buffer
  each l h r e = subst (λ (q : Request). Answered (as_bytes q) image buffer) (is_extracted image l r e) (answers (none l h (ends_found image l r e)))

  pub exactly : ExactlyWhen image buffer
  exactly = record {
    only = λ z. let y : decode_refusal image buffer ≡ 0 = sym number_given ∙ z in let p = accepted y in
        record { request = extract image; ends = found_ends image p.0 p.1; answered = answers y };
    each = each;
    standing = λ l h r t st. each l h (answered_as r) (standing_ends image l r t st);
  }

-- ---- the finished image

-- a byte that is written is left as it is when it is written again
abbrev once : E
once = by (var 0) (var 4) (by (var 1) (var 4) (by (var 2) (var 5) (var 3)))

again : (a old w : ℕ) → byte a (byte a old w) w ≡ byte a old w
unfolding byte
again a old w =
    law (by (var 0) once (by (var 1) once (by (var 2) (var 5) (var 3)))) once 8 (read_only a ∷ free a ∷ named a ∷ bits a ∷ old ∷ w ∷ []) refl

pub finished_again : (want : ℕ → ℕ) (before image : List ℕ) (a : ℕ) → get_or image a 0 ≡ finished want before a → finished want image a ≡ get_or image a 0
unfolding finished written
finished_again want before image a e = go (is_written a) e
  where
    w : ℕ
    w = merge 8 (decided a) (cond (eqb a reg.av_mute) reg.clear_av_mute_mask 0) (want a)

    go : (b : Bool) → get_or image a 0 ≡ cond b (byte a (get_or before a 0) w) (get_or before a 0) → cond b (byte a (get_or image a 0) w) (get_or image a 0) ≡ get_or image a 0
    go true e = rw e (again a (get_or before a 0) w)
    go false e = refl

module _ (input before image : List ℕ) where
  abbrev r : Request
  r = (read_of input).request

  ends : Ran input before image → Ends (answered_as r) image
  ends ran =
      standing_ends image ran.sized r
      (record {
        read = ap read_of (back input ran.bytes ran.read) ∙ ap (λ (n : ℕ). asked n) ran.read;
        paired = ran.paired;
      })
      (λ a h. finished_again (wanted r) before image a (ran.registers a h))
    where
      asked : ℕ → Checked
      asked n = record { refusal = n; request = r }

  pub read_back_lem : ReadBack input before image
  read_back_lem = record {
    ends = ends;
    answered = λ ran buffer h.
        subst (λ (bytes : List ℕ). Answered bytes image buffer) (there_and_back.answered input ran.bytes ran.read)
        ((exactly image buffer).each ran.sized h (answered_as r) (ends ran));
  }
