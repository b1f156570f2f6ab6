-- `pipe::take` meets its contract. Assumes nothing.
use mathlib.Core.Path.{refl, ap, ◌∙◌}
use mathlib.Core.List.{List}
use Prim.Native.Nat.{ℕ}
use native.Mathlib.Omega.{arith}
use lib.ListN.{length, set}
use Rattle.std.proofs.lemmas.List.{length-take}
use Rattle.request.specs.Sections.{longest}
use Rattle.refusals.proofs.Told.{refusal_some}
use Rattle.pipe.proofs.Answers.{taking_nothing, by_pair, judged_early, judged_on}
use Rattle.pipe.proofs.take.Goals as goal

pub returns-in-Err-clause-takes : goal.returns-in-Err-clause-takes
returns-in-Err-clause-takes c = let m = taking_nothing _ _ c.in-Err.ensures.0 in (c.in-Err.ensures.1 ∙ m.0, m.1)

pub returns-in-Some-clause-takes : goal.returns-in-Some-clause-takes
returns-in-Some-clause-takes c =
    rw c.into.ensures
    (judged_early c.args.pipe.now c.args.part.now _ _ c.in-Ok.ensures.0 (rw c.in-Ok.ensures.1 at c.join-joined.ensures) (by_pair _ _ c.ncts.ensures) _ c.in-Some.ensures (refusal_some _))

pub overflow_cast-pipe : goal.overflow_cast-pipe
overflow_cast-pipe c = omega (arith, simp length-take at (ap length c.join-joined.ensures))

pub returns-clause-takes : goal.returns-clause-takes
returns-clause-takes c =
    let joined = length c.join-joined.result.now in
    let m = judged_on c.args.pipe.now c.args.part.now _ _ c.in-Ok.ensures.0 (rw c.in-Ok.ensures.1 at c.join-joined.ensures) (by_pair _ _ c.ncts.ensures) joined refl c.in_default.ensures in
    (m.0, ap (λ (l : List ℕ). set l longest joined) c.copy.ensures ∙ m.1)
