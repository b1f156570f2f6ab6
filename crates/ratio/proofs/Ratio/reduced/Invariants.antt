-- `ratio::Ratio::reduced` meets its contract: both numbers halved are the same fraction. Assumes nothing.
use mathlib.Core.Path.{◌≡◌}
use Prim.Native.Nat.{◌*◌, ◌<◌}
use Rattle.ratio.proofs.Ratio.reduced.Given as goal

abbrev pub invariant-loop-a : goal.invariant-loop-a
invariant-loop-a l = (0 < l.b) × (l.a * l.den ≡ l.num * l.b)

abbrev pub decreases-loop-a : goal.decreases-loop-a
decreases-loop-a l = l.b
