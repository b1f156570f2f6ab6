-- `ratio::quotient` meets its contract: b is doubled up to a, and down again what is left is less than what was tried. Assumes nothing.
use mathlib.Core.Path.{◌≡◌}
use Prim.Native.Nat.{ℕ, ◌-◌, ◌*◌, ◌^◌, ◌<◌}
use Rattle.ratio.proofs.Sizes.{Standing}
use Rattle.ratio.proofs.quotient.Given as goal

abbrev pub invariant-loop-part : goal.invariant-loop-part
invariant-loop-part l = (0 < l.part) × ((n : ℕ) × (l.part ≡ l.b * 2 ^ n))

abbrev pub decreases-loop-part : goal.decreases-loop-part
decreases-loop-part l = l.a - l.part

abbrev pub invariant-loop-part-2 : goal.invariant-loop-part-2
invariant-loop-part-2 l = Standing l.a l.b l.part l.left l.q

abbrev pub decreases-loop-part-2 : goal.decreases-loop-part-2
decreases-loop-part-2 l = l.part
