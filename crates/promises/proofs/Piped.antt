-- What a pipe's answer is to planning and to the line. Assumes nothing.
use mathlib.Core.Path.{◌≡◌, refl, sym, ap, ◌∙◌}
use mathlib.Core.Logic.{◌≢◌}
use mathlib.Core.Bool.{Bool, true, false, cond, not}
use mathlib.Core.List.{List, [], ◌∷◌, ◌++◌}
use Prim.Native.Nat.{ℕ}
use native.Mathlib.Omega.{arith}
use lib.Dec.{eqb, ltb}
use lib.ListN.{length, take}
use borrow.Author.Tests.{eq-eqb, ne_eqb, eqb-true, eqb-false}
use Rattle.lists.specs.Among.{among}
use Rattle.refusals.proofs.Tests.{numbered}
use Rattle.request.specs.Read.{read_of, pair_for, ncts_of}
use Rattle.writes.specs.List.{ready}
use Rattle.plan.specs.Plan.{nothing, later_refusal, plan_with, plan_of}
use Rattle.line.specs.Line.{line_of}
use Rattle.line.specs.Words.{line_text, refused_text, answer_text}
use Rattle.pipe.specs.Numbered.{Piped}
use Rattle.pipe.specs.Final.{refusal_of, Final}
use Rattle.pipe.specs.Bytes.{answer_in, with_answer, refused}
use Rattle.pipe.specs.Found.{end_pipe_of, end_pipe}
use Rattle.pipe.specs.Pipe.{joined, after_parts}
use Rattle.pipe.proofs.Grows.{any_pipe, none_taken, none_ended}
use Rattle.pipe.proofs.Cut.{however_cut}
use Rattle.station.specs.declared.PipedOut.{PipedOut}
use Rattle.promises.specs.Piped.{PipeRefusals, ThroughPipe}

-- ---- demand 1
pub pipe_refusals : (pipe part : List ℕ) → PipeRefusals pipe part
pipe_refusals pipe part =
    record {
      any = any_pipe pipe part;
      station_pipe_take = λ left out p h.
          let u = (any_pipe pipe part).kept (λ z. h (ap (λ (o : PipedOut). o.refusal) p.0 ∙ z)) in (
            ap (λ (o : PipedOut). o.count) p.0 ∙ u.0,
            p.1 ∙ u.1 ∙ ap (λ (l : List ℕ). with_answer pipe (answer_in l)) (sym p.1),
            λ z. p.1 ∙ none_taken pipe part (λ y. h (ap (λ (o : PipedOut). o.refusal) p.0 ∙ y)) (sym (ap (λ (o : PipedOut). o.answered) p.0) ∙ z),
          );
      station_pipe_end = λ left out p h.
          let u = (any_pipe pipe part).kept_at_end (λ z. h (ap (λ (o : PipedOut). o.refusal) p.0 ∙ z)) in (
            ap (λ (o : PipedOut). o.count) p.0 ∙ u.0,
            p.1 ∙ u.1 ∙ ap (λ (l : List ℕ). with_answer pipe (answer_in l)) (sym p.1),
            λ z. p.1 ∙ none_ended pipe (sym (ap (λ (o : PipedOut). o.answered) p.0) ∙ z),
          );
    }

-- ---- planning: a request has the number of its bytes, or else that of its pair
module _ (input : List ℕ) where
  read_first : (read_of input).refusal ≢ 0 → refusal_of input ≡ (read_of input).refusal
  unfolding ncts_of
  read_first z = rw (refusal_of, ne_eqb (read_of input).refusal 0 z)

  then_pair : (read_of input).refusal ≡ 0 → refusal_of input ≡ (pair_for (read_of input).request).refusal
  unfolding ncts_of
  then_pair z = rw (refusal_of, eq-eqb (read_of input).refusal 0 z)

  pub read_is : refusal_of input ≡ 0 → (read_of input).refusal ≡ 0
  read_is z = go (eqb (read_of input).refusal 0) refl
    where
      go : (b : Bool) → eqb (read_of input).refusal 0 ≡ b → (read_of input).refusal ≡ 0
      go true e = eqb-true (read_of input).refusal 0 e
      go false e = sym (read_first (eqb-false (read_of input).refusal 0 e)) ∙ z

  module _ (image buffer : List ℕ) where
    later_number : (read_of input).refusal ≡ 0 → (plan_of input image buffer).refusal ≡ later_refusal (read_of input).request image buffer
    unfolding plan_of plan_with
    later_number z =
        rw (eq-eqb (read_of input).refusal 0 z)
        (numbered nothing _ (λ p. p.refusal) (later_refusal (read_of input).request image buffer) (λ _. refl) refl)

    pub can_be_planned : refusal_of input ≡ 0 → among (plan_of input image buffer).refusal (0 ∷ 7 ∷ 8 ∷ 10 ∷ []) ≡ true
    unfolding later_refusal
    can_be_planned z =
        let r : (read_of input).refusal ≡ 0 = read_is z in
        rw (later_number r, eq-eqb (pair_for (read_of input).request).refusal 0 (sym (then_pair r) ∙ z))
        (go (not (eqb (length image) 256)) (not (ready image)) (ltb (length buffer) 256))
      where
        go : (a b c : Bool) → among (cond a 7 (cond b 8 (cond c 10 0))) (0 ∷ 7 ∷ 8 ∷ 10 ∷ []) ≡ true
        go true b c = refl
        go false true c = refl
        go false false true = refl
        go false false false = refl

    pub cannot : refusal_of input ≢ 0 → (plan_of input image buffer).refusal ≢ 0
    unfolding later_refusal plan_of
    cannot h = go (eqb (read_of input).refusal 0) refl
      where
        go : (b : Bool) → eqb (read_of input).refusal 0 ≡ b → (plan_of input image buffer).refusal ≢ 0
        go true e = rw (later_number (eqb-true (read_of input).refusal 0 e), ne_eqb (pair_for (read_of input).request).refusal 0 (λ z. h (then_pair (eqb-true (read_of input).refusal 0 e) ∙ z)))
            (numbers (not (eqb (length image) 256)) (not (ready image)))
          where
            numbers : (a b : Bool) → ◌≢◌ {A = ℕ} (cond a 7 (cond b 8 9)) 0
            numbers true b z = omega arith
            numbers false true z = omega arith
            numbers false false z = omega arith
        go false e = rw e (eqb-false (read_of input).refusal 0 e)

-- ---- the line of a refusal
refused_line_lem : (input : List ℕ) (n : ℕ) → refusal_of input ≡ n → n ≢ 0 → line_text input ≡ refused_text n
unfolding line_of
refused_line_lem input n e z = rw (e, ne_eqb n 0 z) (rw (ne_eqb n 0 z))

-- ---- however the request is cut
module _ (parts : List (List ℕ)) where
  abbrev whole : List ℕ
  whole = joined parts

  answered : (n : ℕ) → refusal_of whole ≡ n → end_pipe_of (after_parts parts) ≡ cond (eqb n 0) (record { refusal = 0; answered = 1; count = length whole }) (refused n)
  answered n e = (however_cut parts).at_end ∙ rw e

  at_front : refusal_of whole ≡ 0 → take (end_pipe_of (after_parts parts)).count (end_pipe (after_parts parts)) ≡ whole
  at_front z = ap (λ (p : Piped). take p.count (end_pipe (after_parts parts))) (answered 0 z) ∙ (however_cut parts).front z

  the_line : answer_text (end_pipe_of (after_parts parts)).refusal (take (end_pipe_of (after_parts parts)).count (end_pipe (after_parts parts))) ≡ line_text whole
  the_line = go (eqb (refusal_of whole) 0) refl
    where
      go : (b : Bool) → eqb (refusal_of whole) 0 ≡ b
          → answer_text (end_pipe_of (after_parts parts)).refusal (take (end_pipe_of (after_parts parts)).count (end_pipe (after_parts parts))) ≡ line_text whole
      go true e =
          let z : refusal_of whole ≡ 0 = eqb-true (refusal_of whole) 0 e in
          let n : (end_pipe_of (after_parts parts)).refusal ≡ 0 = ap (λ (p : Piped). p.refusal) (answered 0 z) in
          rw (n, at_front z)
      go false e =
          let z : refusal_of whole ≢ 0 = eqb-false (refusal_of whole) 0 e in
          let n : (end_pipe_of (after_parts parts)).refusal ≡ refusal_of whole = ap (λ (p : Piped). p.refusal) (answered (refusal_of whole) refl) ∙ rw e in
          rw (n, e) (sym (refused_line_lem whole (refusal_of whole) refl z))

  pub through_pipe : ThroughPipe parts
  through_pipe =
      record {
        front = at_front;
        planned = λ z image buffer. can_be_planned whole image buffer z;
        unplanned = λ h image buffer. cannot whole image buffer h;
        line = the_line;
        line_at_once = λ part n g later b.
            let f : Final (whole ++ part) n = ((however_cut parts).at_once part n).0 g in
            rw (ne_eqb n 0 f.some) (sym (refused_line_lem ((whole ++ part) ++ later) n (f.unchanged later b) f.some));
      }
