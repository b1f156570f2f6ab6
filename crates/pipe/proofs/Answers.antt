-- What each call answers, and what it leaves, case by case. Assumes nothing.
use mathlib.Core.Path.{◌≡◌, refl, sym, ap, subst, ◌∙◌}
use mathlib.Core.Logic.{◌≢◌, inl, inr}
use mathlib.Core.Bool.{Bool, true, false}
use mathlib.Core.List.{List, ◌++◌}
use Prim.Native.Nat.{ℕ, suc, ◌≤◌}
use native.Mathlib.Omega.{arith}
use lib.Dec.{leb}
use lib.ListN.{length, take, set}
use lib.Seq.{take_all}
use borrow.Author.Tests.{ne_eqb, leb-true, leb-false}
use Rattle.std.specs.Prelude.{Result, Ok, Err}
use Rattle.lists.specs.Over.{over}
use Rattle.refusals.specs.declared.Refusal.{Refusal}
use Rattle.refusals.specs.Numbered.{given_by}
use Rattle.clock.specs.declared.NCts.{NCts}
use Rattle.clock.specs.Numbered.{Pair, pair_told}
use Rattle.request.specs.Read.{PairsInput}
use Rattle.request.specs.Sections.{longest}
use Rattle.request.proofs.Cut.{lengths}
use Rattle.pipe.specs.Final.{refusal_of}
use Rattle.pipe.specs.Bytes.{count_in, so_far, refused, not_yet, said_by, with_answer}
use Rattle.pipe.specs.Found.{is_open, answer_there, early, kept, end_byte}
use Rattle.pipe.specs.Found.{take_of, take_pipe, end_pipe_of, end_pipe, TakesPart, EndsPipe}
use Rattle.pipe.proofs.Early.{TwoOrThree, long, early_is, early_some, early_none}

-- the number that N and CTS gives
pub by_pair : (input : List ℕ) (r : Result NCts Refusal) → PairsInput input (pair_told r) → given_by r ≡ refusal_of input
by_pair input (Ok x) e = ap (λ (p : Pair). p.refusal) e
by_pair input (Err x) e = ap (λ (p : Pair). p.refusal) e

-- not open: what stands there is said, and no byte is changed
pub taking_nothing : (pipe part : List ℕ) → is_open pipe ≡ false → TakesPart pipe part (answer_there pipe) pipe
unfolding take_of take_pipe
taking_nothing pipe part f = (rw f, rw f)

pub ending_nothing : (pipe : List ℕ) → is_open pipe ≡ false → EndsPipe pipe (answer_there pipe) pipe
unfolding end_pipe_of end_pipe
ending_nothing pipe f = (rw f, rw f)

-- the end of an open one
pub ending : (pipe : List ℕ) → is_open pipe ≡ true → EndsPipe pipe (said_by (end_byte pipe) (count_in pipe)) (with_answer pipe (end_byte pipe))
unfolding end_pipe_of end_pipe
ending pipe t = (rw t, rw t)

-- as many bytes as decide have the number of all
pub decides : (input : List ℕ) → refusal_of (take (suc longest) input) ≡ refusal_of input
decides input = ap (λ p. p.refusal) ((lengths input).ncts (suc longest) (omega arith))

-- a part that decides
pub taking_early : (pipe part : List ℕ) (n : ℕ) → is_open pipe ≡ true → n ≡ refusal_of (so_far pipe ++ part) → TwoOrThree n
    → TakesPart pipe part (refused n) (with_answer pipe n)
unfolding take_of take_pipe
taking_early pipe part n t e h =
    let k : early (refusal_of (so_far pipe ++ part)) ≡ n = ap early (sym e) ∙ early_is n h in
    let s : n ≢ 0 = some h in
    (rw (t, k, ne_eqb n 0 s), rw (t, k, ne_eqb n 0 s))
  where
    some : TwoOrThree n → n ≢ 0
    some (inl h) z = omega arith
    some (inr h) z = omega arith

-- one that does not
pub taking_on : (pipe part : List ℕ) → is_open pipe ≡ true → (TwoOrThree (refusal_of (so_far pipe ++ part)) → ⊥)
    → TakesPart pipe part not_yet (kept pipe part)
unfolding take_of take_pipe
taking_on pipe part t h =
    let k : early (refusal_of (so_far pipe ++ part)) ≡ 0 = late (refusal_of (so_far pipe ++ part)) h in
    (rw (t, k), rw (t, k))
  where
    late : (n : ℕ) → (TwoOrThree n → ⊥) → early n ≡ 0
    late n h = rw (ne_eqb n 2 (λ e. h (inl e)), ne_eqb n 3 (λ e. h (inr e)))

-- the same of the bytes that are judged
module _ (pipe part front : List ℕ) (n : ℕ) (t : is_open pipe ≡ true)
    (f : front ≡ take (suc longest) (so_far pipe ++ part)) (e : n ≡ refusal_of front) where
  of_all : n ≡ refusal_of (so_far pipe ++ part)
  of_all = e ∙ ap refusal_of f ∙ decides (so_far pipe ++ part)

  pub judged_early : (k : ℕ) → k ≡ early n → k ≢ 0 → TakesPart pipe part (refused k) (with_answer pipe k)
  judged_early k h some =
      let m = early_some n (λ z. some (h ∙ z)) in
      rw (h ∙ early_is n m) (taking_early pipe part n t of_all m)

  pub judged_on : (r : ℕ) → r ≡ length front → 0 ≡ early n → TakesPart pipe part not_yet (set (over front pipe) longest r)
  judged_on r l z =
      let none : TwoOrThree (refusal_of (so_far pipe ++ part)) → ⊥ = λ h. early_none n (sym z) (subst TwoOrThree (sym of_all) h) in
      let whole : front ≡ so_far pipe ++ part = f ∙ take_all (suc longest) (so_far pipe ++ part) (no_longer none) in
      let m = taking_on pipe part t none in
      (m.0, ap (λ (s : List ℕ). set (over s pipe) longest r) whole ∙ ap (set (over (so_far pipe ++ part) pipe) longest) (l ∙ ap length whole) ∙ m.1)
    where
      no_longer : (TwoOrThree (refusal_of (so_far pipe ++ part)) → ⊥) → length (so_far pipe ++ part) ≤ suc longest
      no_longer none = go (leb (length (so_far pipe ++ part)) longest) refl
        where
          go : (b : Bool) → leb (length (so_far pipe ++ part)) longest ≡ b → length (so_far pipe ++ part) ≤ suc longest
          go true h = omega (arith, leb-true (length (so_far pipe ++ part)) longest h)
          go false h = absurd (none (long (so_far pipe ++ part) (leb-false (length (so_far pipe ++ part)) longest h)))
