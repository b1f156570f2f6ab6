-- However a request is cut: a pipe holds the joined bytes, or the answer that no later byte changes. Assumes nothing.
use mathlib.Core.Path.{◌≡◌, refl, sym, ap, subst, ◌∙◌}
use mathlib.Core.Logic.{◌≢◌, ◌⊎◌, inl, inr}
use mathlib.Core.Bool.{Bool, true, false, cond}
use mathlib.Core.List.{List, [], ◌∷◌, ◌++◌, append-nil, append_assoc}
use Prim.Native.Nat.{ℕ, suc, ◌<◌}
use native.Mathlib.Omega.{arith}
use lib.Dec.{eqb}
use lib.ListN.{length, take, length-set}
use lib.Seq.{take-set-le, get_or-set_same, get_or-set_other}
use borrow.Author.Tests.{eqb-true, eqb-false, eq-eqb, ne_eqb}
use Rattle.request.specs.Sections.{longest, walk, walked}
use Rattle.request.specs.Read.{read_of, ncts_of}
use Rattle.pipe.specs.Numbered.{Piped}
use Rattle.pipe.specs.Final.{refusal_of, Final}
use Rattle.pipe.specs.Bytes.{count_in, answer_in, so_far, fresh, refused, accepted, not_yet, said_by, answer_byte, with_answer}
use Rattle.pipe.specs.Found.{is_pipe}
use Rattle.pipe.specs.Found.{take_of, take_pipe, end_pipe_of, end_pipe, TakesPart, EndsPipe}
use Rattle.pipe.specs.Pipe.{answer_for, IsPipe, OpenPipe, joined, fed, after_parts, HoweverCut}
use Rattle.pipe.proofs.Told.{small}
use Rattle.pipe.proofs.Early.{TwoOrThree, either, more, final, its_own, one_of_two}
use Rattle.pipe.proofs.Joined.{length_so_far}
use Rattle.pipe.proofs.Grows.{is_pipe_lem, any_pipe, said}

-- the answer is there: a number that is not 0, and 2 or 3 before the end
pub record Closed (pipe : List ℕ) (byte : ℕ) : Type 0 where
  pub one : IsPipe pipe
  pub told : answer_in pipe ≡ byte

-- before the end: open with the input so far, or closed with its number
abbrev pub Holds : List ℕ → List ℕ → Type 0
Holds pipe input =
    (OpenPipe pipe × (so_far pipe ≡ input) × (TwoOrThree (refusal_of input) → ⊥)) ⊎ (Closed pipe (refusal_of input) × TwoOrThree (refusal_of input))

some : (n : ℕ) → TwoOrThree n → n ≢ 0
some n (inl h) z = omega arith
some n (inr h) z = omega arith

-- a byte stored as the answer
closed : (pipe : List ℕ) (byte : ℕ) → IsPipe pipe → Closed (with_answer pipe byte) byte
closed pipe byte h =
    record {
      one = record {
        long = length-set pipe (suc longest) byte ∙ h.long;
        counted = omega (arith, get_or-set_other pipe (suc longest) longest byte 0 (λ e. omega arith), h.counted);
      };
      told = get_or-set_same pipe (suc longest) byte 0 (omega (arith, h.long));
    }

-- a part more, from either state: the answer, and the state after it
pub record Stepped (pipe input part : List ℕ) : Type 0 where
  pub holds : Holds (take_pipe pipe part) (input ++ part)
  pub early : TwoOrThree (refusal_of (input ++ part)) → take_of pipe part ≡ refused (refusal_of (input ++ part))
  pub late : (TwoOrThree (refusal_of (input ++ part)) → ⊥) → take_of pipe part ≡ not_yet

no_final : (input : List ℕ) → (TwoOrThree (refusal_of input) → ⊥) → (n : ℕ) → Final input n → ⊥
no_final input none n f = none (one_of_two input n f)

-- what the byte of 2 or 3 says
said_early : (n count : ℕ) → TwoOrThree n → said_by n count ≡ refused n
said_early n count (inl h) = rw h
said_early n count (inr h) = rw h

step : (pipe input part : List ℕ) → Holds pipe input → Stepped pipe input part
step pipe input part (inl (o, e, none)) = go (either (refusal_of (input ++ part)))
  where
    all : so_far pipe ++ part ≡ input ++ part
    all = ap (λ (s : List ℕ). s ++ part) e

    go : TwoOrThree (refusal_of (input ++ part)) ⊎ (TwoOrThree (refusal_of (input ++ part)) → ⊥) → Stepped pipe input part
    go (inl h) =
        let n : ℕ = refusal_of (input ++ part) in
        let m = (any_pipe pipe part).at_once o n (subst (λ (s : List ℕ). Final s n) (sym all) (final (input ++ part) h)) in
        record {
          holds = inr (subst (λ (p : List ℕ). Closed p n) m.1 (closed pipe n o.one), h);
          early = λ _. sym m.0;
          late = λ f. absurd (f h);
        }
    go (inr h) =
        let m = (any_pipe pipe part).goes_on o (λ n f. no_final (input ++ part) h n (subst (λ (s : List ℕ). Final s n) all f)) in
        record {
          holds = inl (m.1.still, m.1.grown ∙ all, h);
          early = λ f. absurd (h f);
          late = λ _. m.0;
        }
step pipe input part (inr (c, h)) =
    let n : refusal_of (input ++ part) ≡ refusal_of input = more input part h in
    let m = ((any_pipe pipe part).stays c.one (λ z. some (refusal_of input) h (sym c.told ∙ z))).0 in
    record {
      holds = inr (subst (λ (p : List ℕ). Closed p (refusal_of (input ++ part))) m.1 (record { one = c.one; told = c.told ∙ sym n }), subst TwoOrThree (sym n) h);
      early = λ _. sym m.0 ∙ ap (λ (k : ℕ). said_by k (count_in pipe)) c.told ∙ said_early (refusal_of input) (count_in pipe) h ∙ ap refused (sym n);
      late = λ f. absurd (f (subst TwoOrThree (sym n) h));
    }

feeds : (pipe input : List ℕ) (parts : List (List ℕ)) → Holds pipe input → Holds (fed pipe parts) (input ++ joined parts)
feeds pipe input [] h = subst (Holds pipe) (sym (append-nil input)) h
feeds pipe input (part ∷ parts) h =
    subst (Holds (fed (take_pipe pipe part) parts)) (append_assoc input part (joined parts))
    (feeds (take_pipe pipe part) (input ++ part) parts (step pipe input part h).holds)

nothing_yet : refusal_of [] ≡ 1
unfolding ncts_of read_of walked walk
nothing_yet = refl

not_one : (n : ℕ) → n ≡ 1 → TwoOrThree n → ⊥
not_one n e (inl h) = omega arith
not_one n e (inr h) = omega arith

first : Holds fresh []
first = inl (record { one = record { long = refl; counted = omega arith }; unanswered = refl }, refl, not_one (refusal_of []) nothing_yet)

held : (parts : List (List ℕ)) → Holds (after_parts parts) (joined parts)
held parts = feeds fresh [] parts first

-- the end: closed with the answer's byte, which says the answer for the input
pub record Ended (pipe input : List ℕ) : Type 0 where
  pub answered : end_pipe_of pipe ≡ answer_for input
  pub left : Closed (end_pipe pipe) (answer_byte (refusal_of input))
  pub says : said_by (answer_byte (refusal_of input)) (count_in (end_pipe pipe)) ≡ answer_for input
  pub front : refusal_of input ≡ 0 → take (length input) (end_pipe pipe) ≡ input

refuses : (input : List ℕ) → TwoOrThree (refusal_of input) → refused (refusal_of input) ≡ answer_for input
refuses input h = rw (ne_eqb (refusal_of input) 0 (some (refusal_of input) h))

same_byte : (n : ℕ) → TwoOrThree n → n ≡ answer_byte n
same_byte n h = rw (ne_eqb n 0 (some n h))

ended : (pipe input : List ℕ) → Holds pipe input → Ended pipe input
ended pipe input (inl (o, e, none)) =
    let byte : ℕ = answer_byte (refusal_of input) in
    let t : is_pipe pipe ≡ true = is_pipe_lem pipe o.one in
    let m = (any_pipe pipe []).ends o in
    let l : count_in pipe ≡ length input = sym (length_so_far pipe t) ∙ ap length e in
    let w : with_answer pipe byte ≡ end_pipe pipe = ap (λ (s : List ℕ). with_answer pipe (answer_byte (refusal_of s))) (sym e) ∙ m.1 in
    let c : count_in (end_pipe pipe) ≡ length input = ap count_in (sym w) ∙ get_or-set_other pipe (suc longest) longest byte 0 (λ e. omega arith) ∙ l in
    record {
      answered = sym m.0 ∙ ap answer_for e;
      left = subst (λ (p : List ℕ). Closed p byte) w (closed pipe byte o.one);
      says = ap (said_by byte) c ∙ said (refusal_of input) (length input) (small input);
      front = λ _.
          ap (take (length input)) (sym w) ∙ take-set-le (length input) pipe (suc longest) byte (omega (arith, l, o.one.counted))
          ∙ ap (λ (n : ℕ). take n pipe) (sym l) ∙ e;
    }
ended pipe input (inr (c, h)) =
    let n : ℕ = refusal_of input in
    let m = ((any_pipe pipe []).stays c.one (λ z. some n h (sym c.told ∙ z))).1 in
    record {
      answered = sym m.0 ∙ ap (λ (k : ℕ). said_by k (count_in pipe)) c.told ∙ said_early n (count_in pipe) h ∙ refuses input h;
      left = subst (λ (p : List ℕ). Closed p (answer_byte n)) m.1 (record { one = c.one; told = c.told ∙ same_byte n h });
      says = ap (λ (k : ℕ). said_by k (count_in (end_pipe pipe))) (sym (same_byte n h)) ∙ said_early n (count_in (end_pipe pipe)) h ∙ refuses input h;
      front = λ z. absurd (some n h z);
    }

-- an answer that is there: parts and ends leave the pipe as it is
module _ (pipe : List ℕ) (byte : ℕ) (c : Closed pipe byte) (z : byte ≢ 0) where
  stays : (part : List ℕ) → TakesPart pipe part (said_by byte (count_in pipe)) pipe × EndsPipe pipe (said_by byte (count_in pipe)) pipe
  stays part =
      subst (λ (k : ℕ). TakesPart pipe part (said_by k (count_in pipe)) pipe × EndsPipe pipe (said_by k (count_in pipe)) pipe) c.told
      ((any_pipe pipe part).stays c.one (λ e. z (sym c.told ∙ e)))

  ignores : (parts : List (List ℕ)) → fed pipe parts ≡ pipe
  ignores [] = refl
  ignores (part ∷ parts) = ap (λ (p : List ℕ). fed p parts) (sym (stays part).0.1) ∙ ignores parts

not_zero : (n : ℕ) → n < 255 → answer_byte n ≢ 0
not_zero n h = go (eqb n 0) refl
  where
    go : (b : Bool) → eqb n 0 ≡ b → cond b 255 n ≢ 0
    go true e z = omega arith
    go false e z = eqb-false n 0 e z

differ : (n : ℕ) → not_yet ≡ refused n → ⊥
differ n e = absurd (omega (arith, ap (λ (p : Piped). p.answered) e))

module _ (parts : List (List ℕ)) where
  e : Ended (after_parts parts) (joined parts)
  e = ended (after_parts parts) (joined parts) (held parts)

  abbrev byte : ℕ
  byte = answer_byte (refusal_of (joined parts))

  b : byte ≢ 0
  b = not_zero (refusal_of (joined parts)) (small (joined parts))

  abbrev left : List ℕ
  left = end_pipe (after_parts parts)

  stays_ended : (part : List ℕ) → TakesPart left part (answer_for (joined parts)) left × EndsPipe left (answer_for (joined parts)) left
  stays_ended part = subst (λ (p : Piped). TakesPart left part p left × EndsPipe left p left) e.says (stays left byte e.left b part)

  stepped : (part : List ℕ) → Stepped (after_parts parts) (joined parts) part
  stepped part = step (after_parts parts) (joined parts) part (held parts)

  abbrev number_with : List ℕ → ℕ
  number_with part = refusal_of (joined parts ++ part)

  -- a number that is given is the input's, and 2 or 3
  its : (part : List ℕ) (n : ℕ) → take_of (after_parts parts) part ≡ refused n → TwoOrThree (number_with part) × (number_with part ≡ n)
  its part n g = go (either (number_with part))
    where
      go : TwoOrThree (number_with part) ⊎ (TwoOrThree (number_with part) → ⊥) → TwoOrThree (number_with part) × (number_with part ≡ n)
      go (inl h) = (h, ap (λ (p : Piped). p.refusal) (sym ((stepped part).early h) ∙ g))
      go (inr h) = absurd (differ n (sym ((stepped part).late h) ∙ g))

  at_once_lem : (part : List ℕ) (n : ℕ) → take_of (after_parts parts) part ≡ refused n → Final (joined parts ++ part) n
  at_once_lem part n g = subst (Final (joined parts ++ part)) (its part n g).1 (final (joined parts ++ part) (its part n g).0)

  given_then : (part : List ℕ) (n : ℕ) → Final (joined parts ++ part) n → take_of (after_parts parts) part ≡ refused n
  given_then part n f = (stepped part).early (one_of_two (joined parts ++ part) n f) ∙ ap refused (its_own (joined parts ++ part) n f)

  answered_there : (part : List ℕ) (n : ℕ) → take_of (after_parts parts) part ≡ refused n
      → (later : List (List ℕ)) → fed (take_pipe (after_parts parts) part) later ≡ take_pipe (after_parts parts) part
  answered_there part n g later = go (stepped part).holds
    where
      go : Holds (take_pipe (after_parts parts) part) (joined parts ++ part) → fed (take_pipe (after_parts parts) part) later ≡ take_pipe (after_parts parts) part
      go (inl h) = absurd (h.2 (its part n g).0)
      go (inr h) = ignores (take_pipe (after_parts parts) part) (number_with part) h.0 (some (number_with part) h.1) later

  number_of : (b : Bool) → eqb (refusal_of (joined parts)) 0 ≡ b
      → let p : Piped = cond b (accepted (length (joined parts))) (refused (refusal_of (joined parts))) in
      (p.refusal ≡ refusal_of (joined parts)) × (p.answered ≡ 1)
  number_of true e = (sym (eqb-true (refusal_of (joined parts)) 0 e), refl)
  number_of false e = (refl, refl)

  its_number : ((end_pipe_of (after_parts parts)).refusal ≡ refusal_of (joined parts)) × ((end_pipe_of (after_parts parts)).answered ≡ 1)
  its_number =
      let n = number_of (eqb (refusal_of (joined parts)) 0) refl in
      (ap (λ (p : Piped). p.refusal) e.answered ∙ n.0, ap (λ (p : Piped). p.answered) e.answered ∙ n.1)

  one_of_three : (part : List ℕ)
      → (take_of (after_parts parts) part ≡ not_yet) ⊎ (take_of (after_parts parts) part ≡ refused 2) ⊎ (take_of (after_parts parts) part ≡ refused 3)
  one_of_three part = go (either (number_with part))
    where
      go : TwoOrThree (number_with part) ⊎ (TwoOrThree (number_with part) → ⊥)
          → (take_of (after_parts parts) part ≡ not_yet) ⊎ (take_of (after_parts parts) part ≡ refused 2) ⊎ (take_of (after_parts parts) part ≡ refused 3)
      go (inl (inl h)) = inr (inl ((stepped part).early (inl h) ∙ ap refused h))
      go (inl (inr h)) = inr (inr ((stepped part).early (inr h) ∙ ap refused h))
      go (inr h) = inl ((stepped part).late h)

  pub however_cut : HoweverCut parts
  however_cut =
      record {
        at_end = e.answered;
        number = its_number;
        byte =
            ((λ h. e.left.told ∙ rw (ne_eqb (refusal_of (joined parts)) 0 h)), (λ h. e.left.told ∙ rw (eq-eqb (refusal_of (joined parts)) 0 h)));
        front = e.front;
        at_once = λ part n. (at_once_lem part n, given_then part n);
        given = one_of_three;
        goes_on = λ part. ((λ g n f. differ n (sym g ∙ given_then part n f)), λ none. (stepped part).late (λ h. none (number_with part) (final (joined parts ++ part) h)));
        answered = answered_there;
        ended = ignores left byte e.left b;
        again = λ part. (stays_ended part).0;
        twice = (stays_ended []).1;
      }
