-- The byte that a request wants in each register: what the table of named fields places there. And how the code makes these bytes, group by
-- group: bytes stored one after the other. `Demand2.fields` (promises) says that the finished image shows each row of the
-- table, `AllNamed` that the rows of a register are its named bits, each once, `Landed` where each byte of a request lands, in numbers.
use Rattle.std.specs.Prelude.{List, [], ◌∷◌, ◌++◌, map, ℕ, suc, ◌+◌, ◌*◌, ◌^◌, eqb, set}
use Rattle.lists.specs.Those.{those}
use Rattle.chip.specs.Machine.{Write, ◌gets◌}
use Rattle.writes.specs.Rows.{from}
use Rattle.request.specs.declared.Request.{Request}
use Rattle.request.specs.Read.{pair_for}
use Rattle.plan.specs.Places.{Place, places}

-- the rows that lie in a register, and the byte that they place there: the sum of their numbers, each moved to its lowest bit
abbrev pub rows_in : ℕ → List Place → List Place
rows_in a = those (λ f. eqb a f.address)

abbrev pub summed : List Place → ℕ
summed [] = 0
summed (f ∷ fs) = f.number * 2 ^ f.low + summed fs

abbrev pub placed_at : ℕ → List Place → ℕ
placed_at a rows = summed (rows_in a rows)

unfoldable pub wanted : Request → ℕ → ℕ
wanted r a = placed_at a (places r (pair_for r))

-- the registers of the table, by the groups in which the code makes them: N and CTS; how sound and picture arrive, and the output format; the
-- converter; the repetition, the VIC, the enables, the mute, the depth and the link; the InfoFrames, reserved bytes included; the embedded
-- syncs and the justification
abbrev pub clock_registers : List ℕ
clock_registers = from 0x01 3 ++ from 0x07 3

abbrev pub input_registers : List ℕ
input_registers = 0x0A ∷ 0x0C ∷ 0x15 ∷ 0x16 ∷ []

abbrev pub matrix_registers : List ℕ
matrix_registers = from 0x18 24

abbrev pub enable_registers : List ℕ
enable_registers = 0x3B ∷ 0x3C ∷ 0x40 ∷ 0x44 ∷ 0x4A ∷ 0x4B ∷ 0x4C ∷ 0xAF ∷ []

abbrev pub frame_registers : List ℕ
frame_registers = from 0x52 16 ++ from 0x70 13

abbrev pub wiring_registers : List ℕ
wiring_registers = from 0x30 5 ++ 0x48 ∷ []

-- some registers, each with what some rows place there
abbrev pub laid_out : List ℕ → List Place → List Write
laid_out registers rows = map (λ a. a gets placed_at a rows) registers

-- registers from an address on get these bytes
abbrev pub laid_bytes : ℕ → List ℕ → List Write
laid_bytes a [] = []
laid_bytes a (b ∷ bs) = a gets b ∷ laid_bytes (suc a) bs

-- the bytes of a list of writes, stored in order
abbrev pub stores : List ℕ → List Write → List ℕ
stores image [] = image
stores image (w ∷ ws) = stores (set image w.address w.value) ws
