-- `meter::Meter::convert` meets its contract: before turn `mode` no smaller mode fits. Assumes nothing.
use mathlib.Core.Path.{◌≡◌}
use mathlib.Core.Bool.{true, false}
use Prim.Native.Nat.{ℕ, ◌<◌}
use lib.Ieee.Scale.{finite}
use Rattle.lists.specs.Find.{every}
use Rattle.meter.specs.Found.{fits_in}
use Rattle.meter.proofs.Meter.convert.Given as goal

abbrev pub invariant-loop-mode : goal.invariant-loop-mode
invariant-loop-mode l = (every finite l.numbers ≡ true) × ((k : ℕ) → k < l.mode → fits_in k l.numbers ≡ false)
