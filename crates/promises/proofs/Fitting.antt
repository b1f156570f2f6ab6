-- Refusal 20 by what planning and N/CTS answer. Assumes nothing.
use mathlib.Core.Path.{◌≡◌, ap}
use mathlib.Core.Bool.{Bool, true, false, cond, not}
use mathlib.Core.List.{List}
use Prim.Native.Nat.{ℕ}
use native.Mathlib.Omega.{arith}
use lib.Dec.{eqb, ltb}
use lib.ListN.{length}
use Rattle.refusals.specs.Tests.{answer}
use Rattle.clock.specs.Answers.{no_pair}
use Rattle.request.specs.declared.Request.{Request}
use Rattle.request.specs.Read.{read_of, pair_for, ncts_of}
use Rattle.request.specs.Lifted.{NeverLifted}
use Rattle.writes.specs.List.{ready}
use Rattle.plan.specs.Numbered.{Planned}
use Rattle.plan.specs.Plan.{later_refusal, nothing, plan_with, plan_of}
use Rattle.promises.specs.Fitting.{Fitting}

abbrev number : Planned → ℕ
number p = p.refusal

-- rows 7 to 10 do not give it
not_later : (r : Request) (image buffer : List ℕ) → (plan_with r image buffer).refusal ≡ 20 → ⊥
unfolding plan_with later_refusal
not_later r image buffer e =
    go (not (eqb (length image) 256)) (not (ready image)) (not (eqb (pair_for r).refusal 0)) (ltb (length buffer) 256) _ e
  where
    go : (a b c d : Bool) (n : ℕ)
        → number (answer (cond a 7 (cond b 8 (cond c 9 (cond d 10 0)))) nothing (record { refusal = 0; count = n })) ≡ 20 → ⊥
    go true b c d n e = omega (arith, e)
    go false true c d n e = omega (arith, e)
    go false false true d n e = omega (arith, e)
    go false false false true n e = omega (arith, e)
    go false false false false n e = omega (arith, e)

module _ (input image buffer : List ℕ) where
  of_read : (plan_of input image buffer).refusal ≡ 20 → (read_of input).refusal ≡ 20
  unfolding plan_of
  of_read e = go (eqb (read_of input).refusal 0) e
    where
      go : (b : Bool) → number (cond b (plan_with (read_of input).request image buffer) (nothing (read_of input).refusal)) ≡ 20 → (read_of input).refusal ≡ 20
      go true e = absurd (not_later (read_of input).request image buffer e)
      go false e = e

  planned : (read_of input).refusal ≡ 20 → plan_of input image buffer ≡ nothing 20
  unfolding plan_of
  planned e = rw e

paired : (input : List ℕ) → (read_of input).refusal ≡ 20 → ncts_of input ≡ no_pair 20
unfolding ncts_of
paired input e = rw e

pub fitting : ((input other : List ℕ) → NeverLifted input other) → Fitting
unfolding read_of
fitting never =
    record {
      wins = λ input image buffer. ((λ e. of_read input image buffer (ap number e)), planned input image buffer);
      pair = paired;
      lifted = λ input image buffer other image' buffer' e z m n.
          ap number (planned other image' buffer' (never input other (of_read input image buffer e) z m n));
    }
