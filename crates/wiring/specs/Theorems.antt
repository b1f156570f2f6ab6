-- What is proved of the wiring section: its bytes, its range, and that its numbers name it.
use Rattle.std.specs.Prelude.{◌≡◌, ◌⊎◌, List, ℕ, ◌<◌, get_or, length}
use Rattle.wiring.specs.declared.Wires.{Wires}
use Rattle.wiring.specs.declared.Wiring.{Wiring}
use Rattle.wiring.specs.Kinds.{four_count, twelve_count}
use Rattle.wiring.specs.Wiring.{wiring_in, wiring_body, count_of, wires_of, WiringOutside}
use Rattle.wiring.specs.Named.{wiring_named}

-- a body of a count that the section allows and what it says, there and back
abbrev pub WiringCounted : List ℕ → Type 0
WiringCounted body = (length body ≡ 0) ⊎ (length body ≡ four_count) ⊎ (length body ≡ twelve_count)

pub record WiringBody : Type 0 where
  pub sized : (w : Wiring) → length (wiring_body w) ≡ count_of w
  pub counted : (w : Wiring) → WiringCounted (wiring_body w)
  pub back : (w : Wiring) → wiring_in (wiring_body w) ≡ w
  pub whole : (body : List ℕ) → ((i : ℕ) → get_or body i 0 < 256) → WiringCounted body → wiring_body (wiring_in body) ≡ body

-- numbers that fit their fields in the registers
pub record WiresFit (n : Wires) : Type 0 where
  pub input : n.input < 16
  pub depth : n.depth < 4
  pub style : n.style < 4
  pub justification : n.justification < 4
  pub hplacement : n.hplacement < 1024
  pub hduration : n.hduration < 1024
  pub vplacement : n.vplacement < 1024
  pub vduration : n.vduration < 1024

-- a wiring to which row 5 does not apply has such numbers, and they name it: counts 0, 4 and 12 do not meet
pub record WiringRange : Type 0 where
  pub fits : (w : Wiring) → (WiringOutside w → ⊥) → WiresFit (wires_of w)
  pub named : (w : Wiring) → (WiringOutside w → ⊥) → wiring_named (wires_of w) ≡ w
