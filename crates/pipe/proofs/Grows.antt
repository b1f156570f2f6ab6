-- A pipe that takes a part, ends, or takes nothing any more: `AnyPipe`. Assumes nothing.
use mathlib.Core.Path.{◌≡◌, refl, sym, ap, subst, ◌∙◌}
use mathlib.Core.Logic.{◌≢◌, ◌⊎◌, inl, inr}
use mathlib.Core.Bool.{Bool, true, false, cond, ◌&&◌}
use mathlib.Core.List.{List, ◌++◌}
use Prim.Native.Nat.{ℕ, suc, ◌+◌, ◌-◌, ◌≤◌, ◌<◌}
use native.Mathlib.Omega.{arith}
use lib.Dec.{eqb, leb}
use lib.ListN.{length, get_or, take, drop, set, length-append, length-drop, length-set}
use lib.Seq.{take_at, take-set-le, set-get_or, get_or-set_same, get_or-set_other, get_or-append-add, get_or-drop}
use borrow.Author.Tests.{eqb-true, eqb-false, eq-eqb, ne_eqb, leb-true, leb-false, lt-leb}
use Rattle.lists.specs.Over.{over}
use Rattle.lists.proofs.Copied.{over_front}
use Rattle.refusals.specs.Tests.{answer}
use Rattle.request.specs.Sections.{longest}
use Rattle.pipe.specs.Numbered.{Piped}
use Rattle.pipe.specs.Final.{refusal_of}
use Rattle.pipe.specs.Bytes.{pipe_length, count_in, answer_in, so_far, refused, accepted, not_yet, no_pipe, said_by, answer_byte, with_answer}
use Rattle.pipe.specs.Found.{is_pipe, is_open, answer_there, given_at, kept, end_byte}
use Rattle.pipe.specs.Found.{take_of, take_pipe, end_pipe_of, end_pipe, TakesPart, EndsPipe}
use Rattle.pipe.specs.Pipe.{answer_for, NoPipe, IsPipe, OpenPipe, Grown, AnyPipe}
use Rattle.pipe.proofs.Told.{small}
use Rattle.pipe.proofs.Early.{TwoOrThree, either, long, final, its_own, one_of_two}
use Rattle.pipe.proofs.Joined.{of_length, counted, a_pipe, open_is, is_open_lem, not_open, length_so_far}
use Rattle.pipe.proofs.Answers.{taking_nothing, ending_nothing, ending, taking_early, taking_on}

-- the test says which
pub is_pipe_lem : (pipe : List ℕ) → IsPipe pipe → is_pipe pipe ≡ true
is_pipe_lem pipe h = a_pipe pipe h.long h.counted

it_is_open : (pipe : List ℕ) → OpenPipe pipe → is_open pipe ≡ true
it_is_open pipe o = is_open_lem pipe (is_pipe_lem pipe o.one) o.unanswered

no_pipe_lem : (pipe : List ℕ) → NoPipe pipe → is_pipe pipe ≡ false
no_pipe_lem pipe (inl h) = rw (ne_eqb (length pipe) pipe_length h)
no_pipe_lem pipe (inr h) = go (eqb (length pipe) pipe_length)
  where
    go : (b : Bool) → (b && leb (count_in pipe) longest) ≡ false
    go true = lt-leb (count_in pipe) longest h
    go false = refl

-- an input with no final answer is no longer than the longest
pub within_longest : (input : List ℕ) → (TwoOrThree (refusal_of input) → ⊥) → length input ≤ longest
within_longest input none = go (leb (length input) longest) refl
  where
    go : (b : Bool) → leb (length input) longest ≡ b → length input ≤ longest
    go true h = leb-true (length input) longest h
    go false h = absurd (none (long input (leb-false (length input) longest h)))

-- the bytes over a pipe's front
module _ (pipe input : List ℕ) (l : length pipe ≡ pipe_length) (h : length input ≤ longest) where
  laid_over : over input pipe ≡ input ++ drop (length input) pipe
  laid_over = over_front input pipe (omega (arith, l))

  abbrev grown_by : List ℕ
  grown_by = set (over input pipe) longest (length input)

  as_long : length (over input pipe) ≡ pipe_length
  as_long = ap length laid_over ∙ length-append input (drop (length input) pipe) ∙ omega (arith, length-drop (length input) pipe, l)

  count_grown : count_in grown_by ≡ length input
  count_grown = get_or-set_same (over input pipe) longest (length input) 0 (omega (arith, as_long))

  -- a byte behind the input is the pipe's own
  pub behind_over : (i : ℕ) → length input ≤ i → get_or (over input pipe) i 0 ≡ get_or pipe i 0
  behind_over i k =
      let q : i ≡ length input + (i - length input) = omega arith in
      ap (λ (s : List ℕ). get_or s i 0) laid_over ∙ ap (λ (j : ℕ). get_or (input ++ drop (length input) pipe) j 0) q
      ∙ get_or-append-add input (drop (length input) pipe) (i - length input) 0 ∙ get_or-drop (length input) pipe (i - length input) 0 ∙ ap (λ (j : ℕ). get_or pipe j 0) (sym q)

  pub grown_so_far : so_far grown_by ≡ input
  grown_so_far =
      ap (λ (n : ℕ). take n grown_by) count_grown ∙ take-set-le (length input) (over input pipe) longest (length input) h
      ∙ ap (take (length input)) laid_over ∙ take_at input (drop (length input) pipe) (length input) refl

  pub grown_open : answer_in pipe ≡ 0 → OpenPipe grown_by
  grown_open z =
      record {
        one = record { long = length-set (over input pipe) longest (length input) ∙ as_long; counted = omega (arith, count_grown) };
        unanswered = get_or-set_other (over input pipe) longest (suc longest) (length input) 0 (λ e. omega arith) ∙ behind_over (suc longest) (omega arith) ∙ z;
      }

  pub grown_behind : (i : ℕ) → length input ≤ i → i < longest → get_or grown_by i 0 ≡ get_or pipe i 0
  grown_behind i k m = get_or-set_other (over input pipe) longest i (length input) 0 (λ e. omega arith) ∙ behind_over i k

-- what an answer's byte says of a number
pub said : (n count : ℕ) → n < 255 → said_by (answer_byte n) count ≡ answer n refused (accepted count)
said n count h = go (eqb n 0) refl
  where
    go : (b : Bool) → eqb n 0 ≡ b → said_by (cond b 255 n) count ≡ cond b (accepted count) (refused n)
    go true e = refl
    go false e = rw (ne_eqb n 255 (λ e. omega arith))

-- beside a refusal: a count of zero, and no byte but the answer's
abbrev Kept : List ℕ → Piped → List ℕ → Type 0
Kept pipe out left = out.refusal ≢ 0 → (out.count ≡ 0) × (left ≡ with_answer pipe (answer_in left))

kept_by : (pipe : List ℕ) (byte count : ℕ) (left : List ℕ) → left ≡ with_answer pipe (answer_in left) → Kept pipe (said_by byte count) left
kept_by pipe byte count left e = go (eqb byte 255)
  where
    go : (b : Bool) → Kept pipe (cond b (accepted count) (refused byte)) left
    go true h = absurd (h refl)
    go false h = (refl, e)

its_byte : (pipe : List ℕ) (byte : ℕ) → is_open pipe ≡ true → with_answer pipe byte ≡ with_answer pipe (answer_in (with_answer pipe byte))
its_byte pipe byte t = ap (with_answer pipe) (sym (get_or-set_same pipe (suc longest) byte 0 (omega (arith, of_length pipe (open_is pipe t).0))))

own_byte : (pipe : List ℕ) → pipe ≡ with_answer pipe (answer_in pipe)
own_byte pipe = sym (set-get_or pipe (suc longest) 0)

kept_standing : (pipe : List ℕ) → Kept pipe (answer_there pipe) pipe
kept_standing pipe = go (is_pipe pipe)
  where
    go : (a : Bool) → Kept pipe (cond a (said_by (answer_in pipe) (count_in pipe)) no_pipe) pipe
    go true = kept_by pipe (answer_in pipe) (count_in pipe) pipe (own_byte pipe)
    go false = λ h. (refl, own_byte pipe)

kept_taking : (pipe part : List ℕ) → Kept pipe (take_of pipe part) (take_pipe pipe part)
unfolding take_of take_pipe
kept_taking pipe part = go (is_open pipe) refl (given_at pipe part)
  where
    go : (a : Bool) → is_open pipe ≡ a → (m : ℕ)
        → Kept pipe (cond a (answer m refused not_yet) (answer_there pipe)) (cond a (answer m (with_answer pipe) (kept pipe part)) pipe)
    go false t m = kept_standing pipe
    go true t m = split (eqb m 0)
      where
        split : (z : Bool) → Kept pipe (cond z not_yet (refused m)) (cond z (kept pipe part) (with_answer pipe m))
        split true h = absurd (h refl)
        split false h = (refl, its_byte pipe m t)

kept_ending : (pipe : List ℕ) → Kept pipe (end_pipe_of pipe) (end_pipe pipe)
unfolding end_pipe_of end_pipe
kept_ending pipe = go (is_open pipe) refl
  where
    go : (a : Bool) → is_open pipe ≡ a → Kept pipe (cond a (said_by (end_byte pipe) (count_in pipe)) (answer_there pipe)) (cond a (with_answer pipe (end_byte pipe)) pipe)
    go false t = kept_standing pipe
    go true t = kept_by pipe (end_byte pipe) (count_in pipe) (with_answer pipe (end_byte pipe)) (its_byte pipe (end_byte pipe) t)

-- what an answer's byte says
flagged : (byte count : ℕ) → (said_by byte count).answered ≡ 1
flagged byte count = go (eqb byte 255)
  where
    go : (b : Bool) → (cond b (accepted count) (refused byte)).answered ≡ 1
    go true = refl
    go false = refl

-- a pipe, or none
which_is : (pipe : List ℕ) → IsPipe pipe ⊎ NoPipe pipe
which_is pipe = go (eqb (length pipe) pipe_length) refl (leb (count_in pipe) longest) refl
  where
    go : (a : Bool) → eqb (length pipe) pipe_length ≡ a → (b : Bool) → leb (count_in pipe) longest ≡ b → IsPipe pipe ⊎ NoPipe pipe
    go true e true f = inl (record { long = eqb-true (length pipe) pipe_length e; counted = leb-true (count_in pipe) longest f })
    go true e false f = inr (inr (leb-false (count_in pipe) longest f))
    go false e b f = inr (inl (eqb-false (length pipe) pipe_length e))

-- the count of an answer is within the longest request
said_within : (pipe : List ℕ) (byte : ℕ) → is_pipe pipe ≡ true → (said_by byte (count_in pipe)).count ≤ longest
said_within pipe byte t = go (eqb byte 255)
  where
    go : (b : Bool) → (cond b (accepted (count_in pipe)) (refused byte)).count ≤ longest
    go true = counted pipe t
    go false = omega arith

standing_within : (pipe : List ℕ) → (answer_there pipe).count ≤ longest
standing_within pipe = go (is_pipe pipe) refl
  where
    go : (b : Bool) → is_pipe pipe ≡ b → (cond b (said_by (answer_in pipe) (count_in pipe)) no_pipe).count ≤ longest
    go true t = said_within pipe (answer_in pipe) t
    go false t = omega arith

take_within : (pipe part : List ℕ) → (take_of pipe part).count ≤ longest
unfolding take_of
take_within pipe part = go (is_open pipe) (eqb (given_at pipe part) 0)
  where
    go : (a b : Bool) → (cond a (cond b not_yet (refused (given_at pipe part))) (answer_there pipe)).count ≤ longest
    go true true = omega arith
    go true false = omega arith
    go false b = standing_within pipe

pub end_within : (pipe : List ℕ) → (end_pipe_of pipe).count ≤ longest
unfolding end_pipe_of
end_within pipe = go (is_open pipe) refl
  where
    go : (a : Bool) → is_open pipe ≡ a → (cond a (said_by (end_byte pipe) (count_in pipe)) (answer_there pipe)).count ≤ longest
    go true t = said_within pipe (end_byte pipe) (open_is pipe t).0
    go false t = standing_within pipe

pub any_pipe : (pipe part : List ℕ) → AnyPipe pipe part
any_pipe pipe part =
    record {
      none = λ h. both no_pipe (shut h) (rw (no_pipe_lem pipe h));
      stays = λ h z. both (said_by (answer_in pipe) (count_in pipe)) (not_open pipe z) (rw (is_pipe_lem pipe h));
      said = λ h z. said_there h z;
      either = which_is pipe;
      within = (take_within pipe part, end_within pipe);
      at_once = λ o n f. taking_early pipe part n (it_is_open pipe o) (sym (its_own (so_far pipe ++ part) n f))
          (subst TwoOrThree (its_own (so_far pipe ++ part) n f) (one_of_two (so_far pipe ++ part) n f));
      goes_on = λ o none. goes_on_lem o (λ e. none (refusal_of (so_far pipe ++ part)) (final (so_far pipe ++ part) e));
      ends = λ o. the_end o;
      kept = kept_taking pipe part;
      kept_at_end = kept_ending pipe;
    }
  where
    -- where it is not open, both calls say what stands there
    both : (p : Piped) → is_open pipe ≡ false → answer_there pipe ≡ p → TakesPart pipe part p pipe × EndsPipe pipe p pipe
    both p f e =
        subst (λ (q : Piped). TakesPart pipe part q pipe × EndsPipe pipe q pipe) e (taking_nothing pipe part f, ending_nothing pipe f)

    shut : NoPipe pipe → is_open pipe ≡ false
    shut h = rw (no_pipe_lem pipe h)

    said_there : IsPipe pipe → answer_in pipe ≢ 0 → ((take_of pipe part).answered ≡ 1)
        × (answer_in pipe ≢ 255 → (take_of pipe part).refusal ≡ answer_in pipe)
        × (answer_in pipe ≡ 255 → ((take_of pipe part).refusal ≡ 0) × ((take_of pipe part).count ≡ count_in pipe))
    said_there h z =
        let m : take_of pipe part ≡ said_by (answer_in pipe) (count_in pipe) =
        sym (both (said_by (answer_in pipe) (count_in pipe)) (not_open pipe z) (rw (is_pipe_lem pipe h))).0.0 in (
          ap (λ (p : Piped). p.answered) m ∙ flagged (answer_in pipe) (count_in pipe),
          (λ k. ap (λ (p : Piped). p.refusal) m ∙ rw (ne_eqb (answer_in pipe) 255 k)),
          (λ k. (ap (λ (p : Piped). p.refusal) m ∙ rw (eq-eqb (answer_in pipe) 255 k), ap (λ (p : Piped). p.count) m ∙ rw (eq-eqb (answer_in pipe) 255 k))),
        )

    goes_on_lem : OpenPipe pipe → (TwoOrThree (refusal_of (so_far pipe ++ part)) → ⊥) → (take_of pipe part ≡ not_yet) × Grown pipe part (take_pipe pipe part)
    goes_on_lem o none =
        let m = taking_on pipe part (it_is_open pipe o) none in
        let h : length (so_far pipe ++ part) ≤ longest = within_longest (so_far pipe ++ part) none in
        let l : length pipe ≡ pipe_length = o.one.long in
        let e : so_far (kept pipe part) ≡ so_far pipe ++ part = grown_so_far pipe (so_far pipe ++ part) l h in (
          sym m.0,
          subst (Grown pipe part) m.1 (record {
            still = grown_open pipe (so_far pipe ++ part) l h o.unanswered;
            grown = e;
            behind = λ i k q. grown_behind pipe (so_far pipe ++ part) l h i (subst (λ (s : List ℕ). length s ≤ i) e k) q;
          }),
        )

    the_end : OpenPipe pipe → EndsPipe pipe (answer_for (so_far pipe)) (with_answer pipe (answer_byte (refusal_of (so_far pipe))))
    the_end o =
        let t : is_pipe pipe ≡ true = is_pipe_lem pipe o.one in
        let m = ending pipe (it_is_open pipe o) in
        (ap (λ (n : ℕ). answer (refusal_of (so_far pipe)) refused (accepted n)) (length_so_far pipe t) ∙ sym (said (refusal_of (so_far pipe)) (count_in pipe) (small (so_far pipe))) ∙ m.0, m.1)

-- a part that is not empty and is not answered leaves more bytes in the pipe
pub takes_more : (pipe part : List ℕ) → OpenPipe pipe → (take_of pipe part).answered ≡ 0 → 0 < length part
    → OpenPipe (take_pipe pipe part) × (count_in pipe < count_in (take_pipe pipe part))
takes_more pipe part o z h = go (either (refusal_of (so_far pipe ++ part)))
  where
    go : TwoOrThree (refusal_of (so_far pipe ++ part)) ⊎ (TwoOrThree (refusal_of (so_far pipe ++ part)) → ⊥)
        → OpenPipe (take_pipe pipe part) × (count_in pipe < count_in (take_pipe pipe part))
    go (inl e) =
        let m = (any_pipe pipe part).at_once o (refusal_of (so_far pipe ++ part)) (final (so_far pipe ++ part) e) in
        absurd (omega (arith, ap (λ (p : Piped). p.answered) m.0, z))
    go (inr none) =
        let m = ((any_pipe pipe part).goes_on o (λ n f. none (one_of_two (so_far pipe ++ part) n f))).1 in
        let left = take_pipe pipe part in
        (m.still, omega (arith, length_so_far pipe (is_pipe_lem pipe o.one), length_so_far left (is_pipe_lem left m.still.one), ap length m.grown, length-append (so_far pipe) part))

-- a refusal that is no answer leaves every byte
pub none_taken : (pipe part : List ℕ) → (take_of pipe part).refusal ≢ 0 → (take_of pipe part).answered ≡ 0 → take_pipe pipe part ≡ pipe
unfolding take_of take_pipe
none_taken pipe part = go (is_open pipe) (given_at pipe part)
  where
    go : (a : Bool) (m : ℕ) → let out : Piped = cond a (answer m refused not_yet) (answer_there pipe) in
        out.refusal ≢ 0 → out.answered ≡ 0 → cond a (answer m (with_answer pipe) (kept pipe part)) pipe ≡ pipe
    go false m h z = refl
    go true m h z = split (eqb m 0) h z
      where
        split : (c : Bool) → (cond c not_yet (refused m)).refusal ≢ 0 → (cond c not_yet (refused m)).answered ≡ 0
            → cond c (kept pipe part) (with_answer pipe m) ≡ pipe
        split true h z = absurd (h refl)
        split false h z = absurd (omega arith)

pub none_ended : (pipe : List ℕ) → (end_pipe_of pipe).answered ≡ 0 → end_pipe pipe ≡ pipe
unfolding end_pipe_of end_pipe
none_ended pipe = go (is_open pipe)
  where
    go : (a : Bool) → (cond a (said_by (end_byte pipe) (count_in pipe)) (answer_there pipe)).answered ≡ 0 → cond a (with_answer pipe (end_byte pipe)) pipe ≡ pipe
    go false z = refl
    go true z = split (eqb (end_byte pipe) 255) z
      where
        split : (c : Bool) → (cond c (accepted (count_in pipe)) (refused (end_byte pipe))).answered ≡ 0 → with_answer pipe (end_byte pipe) ≡ pipe
        split true z = absurd (omega arith)
        split false z = absurd (omega arith)
