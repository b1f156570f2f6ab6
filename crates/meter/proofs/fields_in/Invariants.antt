-- `meter::fields_in` meets its contract: before turn i the first i are fields, and are stored. Assumes nothing.
use mathlib.Core.Path.{◌≡◌}
use mathlib.Core.Bool.{true}
use mathlib.Core.List.{◌++◌}
use Prim.Native.Nat.{ℕ, ◌<◌}
use lib.ListN.{get_or, length, take, drop}
use Rattle.meter.specs.Found.{fields_in, is_field}
use Rattle.meter.proofs.fields_in.Given as goal

abbrev pub invariant-loop-i : goal.invariant-loop-i
invariant-loop-i l =
    (length l.numbers ≡ 12) × (length l.initial.field-items ≡ 12) × (l.field-items ≡ take l.i (fields_in l.mode l.numbers) ++ drop l.i l.initial.field-items)
    × ((k : ℕ) → k < l.i → is_field (get_or (fields_in l.mode l.numbers) k 0) ≡ true)
