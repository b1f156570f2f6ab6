-- The test that decides row 5 of the wiring section, as `request::rows` says.
use Rattle.std.specs.Prelude.{Bool, not, ◌||◌, ℕ, eqb, ltb}
use Rattle.wiring.specs.declared.Kind.{Kind}
use Rattle.wiring.specs.declared.Wires.{Wires}
use Rattle.wiring.specs.declared.Wiring.{Wiring}
use Rattle.wiring.specs.Kinds.{depth_most, kind_of, most_sync}
use Rattle.wiring.specs.Wiring.{count_of, wires_of}

abbrev pub undrawn : Kind → Wires → Bool
undrawn k n =
    ltb n.depth k.least || (ltb depth_most n.depth || (ltb n.style k.first || (ltb k.last n.style || ltb k.ways n.justification)))

abbrev pub sync_beyond : ℕ → Wires → Bool
sync_beyond most n = ltb most n.hplacement || (ltb most n.hduration || (ltb most n.vplacement || ltb most n.vduration))

abbrev pub numbers_outside : ℕ → Wires → Kind → Bool
numbers_outside count n k = undrawn k n || (not (eqb count k.count) || sync_beyond (most_sync k.count) n)

unfoldable pub wiring_outside : Wiring → Bool
wiring_outside w = numbers_outside (count_of w) (wires_of w) (kind_of (wires_of w).input)
