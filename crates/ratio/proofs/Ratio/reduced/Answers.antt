-- `ratio::Ratio::reduced` meets its contract: both numbers halved are the same fraction. Assumes nothing.
use native.Mathlib.Omega.{arith}
use Rattle.ratio.proofs.Divisor.{in_lowest}
use Rattle.ratio.proofs.Halving.{both_halved, carried}
use Rattle.ratio.proofs.Ratio.reduced.Goals as goal

pub loop-a-preserved : goal.loop-a-preserved
loop-a-preserved c = let l = c.loop-a in
    let a = c.args in
    (omega arith, both_halved l.a l.b a.num a.den (omega arith) (omega arith) l.invariant.1)

pub returns : goal.returns
returns c = let a = c.args in
    let l = c.loop-a in
    let r = in_lowest l.a l.b l.invariant.0 in
    record {
      some = λ h. rw (c.quotient.ensures, c.quotient-2.ensures, c.gcd-g.ensures) (carried l.a l.b a.num a.den _ _ l.invariant.0 l.invariant.1 r);
      none = λ z. absurd (c.if-den-eq0.false z);
    }
