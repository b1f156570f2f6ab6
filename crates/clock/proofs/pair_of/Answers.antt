-- `clock::pair_of` meets its contract. Assumes nothing.
use mathlib.Core.Path.{ap}
use native.Mathlib.Omega.{arith}
use borrow.Author.Tests.{eq-eqb}
use Rattle.clock.specs.Numbered.{Clock}
use Rattle.clock.proofs.Told.{Within, within}
use Rattle.clock.proofs.Coherence.{pair_in_lem}
use Rattle.clock.proofs.pair_of.Goals as goal
use Rattle.clock.proofs.pair_of.Goals.{Then-coherent-eq1}

taken : (c : Then-coherent-eq1) → Within c.args.video c.in_ok-clock-2.clock
taken c = within c.args.video c.in_ok-clock.clock c.in_ok-clock-2.clock c.in_ok-clock.ensures.told c.in_ok-clock-2.ensures

pub invariant_of-coherent_pair : goal.invariant_of-coherent_pair
invariant_of-coherent_pair c = record { rate_bound = omega arith; within_bounds = (taken c).bounds }

pub returns-then-coherent-eq1 : goal.returns-then-coherent-eq1
returns-then-coherent-eq1 c =
    let a = c.args in
    let t = taken (goal.at.returns-then-coherent-eq1 c).Then-coherent-eq1 in
    rw (
      c.coherent_pair.ensures,
      ← t.is,
      pair_in_lem a.video a.rate a.coherent (ap (λ (k : Clock). k.refusal) t.is) (omega arith) (omega arith),
      eq-eqb _ _ c.if-coherent-eq1.true,
    )
