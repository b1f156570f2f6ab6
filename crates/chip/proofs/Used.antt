-- How many bytes of a group are in use. Assumes nothing.
use mathlib.Core.Path.{◌≡◌}
use mathlib.Core.Bool.{Bool, true, false, cond, ◌||◌}
use Prim.Native.Nat.{◌+◌, ◌≤◌}
use native.Mathlib.Omega.{arith}
use lib.ListN.{length, take, drop, length-drop}
use lib.Seq.{length-take-le}
use Rattle.chip.specs.declared.Chip.{Chip}
use Rattle.chip.specs.Machine.{Group, Buffer, up, holds_of, registers_of, in_use}

-- as many as it has registers, of its buffer or of the image
pub in_use_long : (b : Buffer) (g : Group) (s : Chip) → length s.image ≡ 256 → g.first + g.count ≤ 256 → g.count ≤ length (b.bytes s)
    → length (in_use b g s) ≡ g.count
unfolding in_use
in_use_long b g s h k l = go (b.waits s || up g (holds_of b s.image))
  where
    go : (u : Bool) → length (cond u (take g.count (b.bytes s)) (registers_of g s.image)) ≡ g.count
    go true = length-take-le g.count (b.bytes s) l
    go false = length-take-le g.count (drop g.first s.image) (simp length-drop (omega arith))
