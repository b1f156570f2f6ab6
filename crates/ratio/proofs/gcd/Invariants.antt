-- `ratio::gcd` meets its contract: each round leaves the greatest common divisor, and a smaller sum. Assumes nothing.
use mathlib.Core.Path.{◌≡◌}
use Prim.Native.Nat.{◌+◌, ◌%◌}
use Rattle.ratio.specs.Terms.{divisor_of}
use Rattle.ratio.proofs.gcd.Given as goal

abbrev pub invariant-loop-x : goal.invariant-loop-x
invariant-loop-x l = (l.y % 2 ≡ 1) × (divisor_of l.x l.y ≡ divisor_of l.a l.b)

abbrev pub decreases-loop-x : goal.decreases-loop-x
decreases-loop-x l = l.x + l.y
