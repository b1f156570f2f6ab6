-- Document 01, "The chip machine", with the waiting mark of document 02, request 04: its groups and their holds, and what is in use. What a
-- write and a Vsync do is `OneWrite` (Step) and `Turn`.
use Rattle.std.specs.Prelude.{◌≡◌, Bool, false, cond, ◌||◌, List, [], ◌∷◌, ℕ, ◌+◌, ◌*◌, eqb, get_or, take, drop}
use Rattle.bits.specs.Merge.{bit}
use Rattle.map.specs.Map as reg
use Rattle.map.specs.Map.{infoframe_update, avi_infoframe_version, avi_infoframe_count, audio_infoframe_version, audio_infoframe_count}
use Rattle.map.specs.Map.{coefficient_update, csc, csc_count}
use Rattle.matrix.specs.Matrix.{fields}
use Rattle.chip.specs.declared.Chip.{Chip}

-- a run of registers that is sent whole: the bit of its hold in the register of the holds, its first register, how many they are
pub record Group : Type 0 where
  pub hold : ℕ
  pub first : ℕ
  pub count : ℕ

-- a buffer: the register with the holds that fill it, the groups that these hold, its bytes in a state, and whether a mark says that a
-- lowered hold of it waits there (beside a raised hold that "counts for nothing": the buffer is in use anyway)
pub record Buffer : Type 0 where
  pub register : ℕ
  pub groups : List Group
  pub bytes : Chip → List ℕ
  pub waits : Chip → Bool

-- "Packet holds: 0x4A[6] AVI, [5] audio, [4] GC"; "A packet's registers run from its version to its last data byte, reserved ones included:
-- 16 for AVI, 13 for audio"; "GC's is 0x4B alone"
abbrev pub avi : Group
avi = record { hold = 6; first = avi_infoframe_version; count = avi_infoframe_count }

abbrev pub audio : Group
audio = record { hold = 5; first = audio_infoframe_version; count = audio_infoframe_count }

abbrev pub gc : Group
gc = record { hold = 4; first = reg.av_mute; count = 1 }

-- "Coefficient hold 0x1A[5]: the same for the 24 bytes 0x18 to 0x2F, copied whole"
abbrev pub matrix : Group
matrix = record { hold = 5; first = csc; count = csc_count }

-- "one packet buffer (a packet fills its front, the rest stays) and one coefficient buffer"; "The state gains a waiting mark", the
-- coefficient hold's
abbrev pub packets : Buffer
packets = record { register = infoframe_update; groups = avi ∷ audio ∷ gc ∷ []; bytes = λ s. s.packet; waits = λ s. false }

abbrev pub converter : Buffer
converter = record { register = coefficient_update; groups = matrix ∷ []; bytes = λ s. s.coefficients; waits = λ s. s.waiting }

-- the byte of a buffer's holds in an image, and whether a group's hold is up in such a byte
abbrev pub holds_of : Buffer → List ℕ → ℕ
holds_of b image = get_or image b.register 0

abbrev pub up : Group → ℕ → Bool
up g holds = eqb (bit g.hold holds) 1

-- a group's registers
abbrev pub registers_of : Group → List ℕ → List ℕ
registers_of g image = take g.count (drop g.first image)

-- a pair of address and value
pub record Write : Type 0 where
  pub address : ℕ
  pub value : ℕ

infix 80 ◌gets◌
abbrev pub ◌gets◌ : ℕ → ℕ → Write
address gets value = record { address = address; value = value }

-- "While it is up the buffer is sent; when down, the registers", but for a lowered hold that waits: the bytes of a group that the chip goes
-- by. (Of the matrix's first byte only the coefficient bits count: see `enable_in_use` and `mode_in_use`.)
unfoldable pub in_use : Buffer → Group → Chip → List ℕ
in_use b g s = cond (b.waits s || up g (holds_of b s.image)) (take g.count (b.bytes s)) (registers_of g s.image)

-- the coefficient hold, 0x1A[5], is up
abbrev pub held : Chip → Bool
held s = up matrix (holds_of converter s.image)

-- the twelve coefficients in use, "the low 13 bits" of each pair
unfoldable pub coefficients : Chip → List ℕ
coefficients s = fields (in_use converter matrix s)

-- "Enable and mode in 0x18[7:5] act at once": they are read off the register, whatever the hold; the enable is [7], the mode [6:5]
abbrev pub enable_in_use : Chip → ℕ
enable_in_use s = bit 7 (get_or s.image csc 0)

abbrev pub mode_in_use : Chip → ℕ
mode_in_use s = bit 5 (get_or s.image csc 0) + 2 * bit 6 (get_or s.image csc 0)

-- the GC byte in use: 0x4B[6] sets the mute, [7] clears it. "Muted: set bit 1, clear bit 0. Open: set 0, clear 1."
unfoldable pub gc_in_use : Chip → ℕ
gc_in_use s = get_or (in_use packets gc s) 0 0

abbrev pub Muted : Chip → Type 0
Muted s = (bit 6 (gc_in_use s) ≡ 1) × (bit 7 (gc_in_use s) ≡ 0)

abbrev pub Open : Chip → Type 0
Open s = (bit 6 (gc_in_use s) ≡ 0) × (bit 7 (gc_in_use s) ≡ 1)

-- the two bits as one number, set worth 1 and clear 2: 1 is muted, 2 is open (`Faces` of crate views)
abbrev pub mute : Chip → ℕ
mute s = bit 6 (gc_in_use s) + 2 * bit 7 (gc_in_use s)
