-- How decoding makes a wiring of the numbers that stand in the registers: the ID says which count. `WiringRange` ties it to `wires_of`.
use Rattle.std.specs.Prelude.{cond, eqb}
use Rattle.wiring.specs.declared.Wires.{Wires}
use Rattle.wiring.specs.declared.Wiring.{Wiring}
use Rattle.wiring.specs.declared.Wiring.TheVariants.{Board, Four, Twelve}
use Rattle.wiring.specs.Kinds.{four_count, twelve_count, kind_of}

abbrev pub wiring_named : Wires → Wiring
wiring_named n =
    cond (eqb (kind_of n.input).count twelve_count)
    (Twelve n.input n.depth n.style n.justification n.hplacement n.hduration n.vplacement n.vduration)
    (cond (eqb (kind_of n.input).count four_count) (Four n.input n.depth n.style n.justification) Board)
