-- `lists::copy` meets its contract: front and rest in one equation. Assumes nothing.
use mathlib.Core.Path.{◌∙◌}
use native.Mathlib.Omega.{arith}
use lib.ListN.{length-set}
use Rattle.lists.proofs.Copied.{copy_more, over_shorter}
use Rattle.lists.proofs.copy.Goals as goal

pub loop-i-preserved : goal.loop-i-preserved
loop-i-preserved c = let l = c.loop-i in
    let a = c.args in
    (simp length-set l.invariant.0, rw l.invariant.1 (copy_more a.bytes.now a.out.now l.i (omega arith) (omega arith)))

pub returns : goal.returns
returns c = let l = c.loop-i in
    l.invariant.1 ∙ over_shorter c.args.bytes.now c.args.out.now l.i (omega arith)
