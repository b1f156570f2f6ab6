-- How the code makes a write, and takes a Vsync: `OneWrite` (Step) and `Turn` say of it, bit by bit, what documents 01 ("The chip machine") and 02
-- (request 04) do.
use Rattle.std.specs.Prelude.{◌≡◌, Bool, true, false, cond, not, ◌&&◌, ◌||◌, List, [], ◌∷◌, ◌++◌, ℕ, eqb, get_or, set, drop}
use Rattle.bits.specs.Merge.{merge}
use Rattle.registers.specs.Classes.{read_only}
use Rattle.refusals.specs.Rows.{two_holds}
use Rattle.refusals.specs.Tests.{Test, ◌if◌, lowest, answer}
use Rattle.chip.specs.declared.Chip.{Chip}
use Rattle.chip.specs.Numbered.{Wrote}
use Rattle.chip.specs.Machine.{Group, Buffer, avi, audio, gc, matrix, packets, converter, holds_of, up, registers_of, held}

-- "A hold going 0 to 1 copies that packet's registers, as they stood before the write, to the packet buffer" ("a packet fills its front,
-- the rest stays"): a buffer's bytes as the holds go from one byte to another
abbrev pub filled : List Group → ℕ → ℕ → List ℕ → List ℕ → List ℕ
filled [] old new image bytes = bytes
filled (g ∷ gs) old new image bytes =
    cond (up g new && not (up g old)) (registers_of g image ++ drop g.count bytes) (filled gs old new image bytes)

-- a buffer's bytes after a byte is stored at an address; a rise in a wait "copies nothing"
abbrev pub buffer_after : Buffer → ℕ → ℕ → Chip → List ℕ
buffer_after b address byte s =
    cond (not (b.waits s) && eqb address b.register) (filled b.groups (holds_of b s.image) byte s.image (b.bytes s)) (b.bytes s)

-- the mark as the coefficient hold goes from `before` to `after`: a fall sets it, a rise "drops the mark", and a hold that stays leaves it
abbrev pub mark_as : Bool → Bool → Bool → Bool
mark_as true false mark = true
mark_as false true mark = false
mark_as true true mark = mark
mark_as false false mark = mark

-- the mark after a byte is stored at an address
abbrev pub mark_after : ℕ → ℕ → Chip → Bool
mark_after address byte s = cond (eqb address converter.register) (mark_as (held s) (up matrix byte) s.waiting) s.waiting

-- three lent slices and a mark as a state
abbrev pub lent_as : List ℕ → List ℕ → List ℕ → Bool → Chip
lent_as image packet coefficients waiting = record { image = image; packet = packet; coefficients = coefficients; waiting = waiting }

-- a byte stored as it is
unfoldable pub put : ℕ → ℕ → Chip → Chip
put address byte s = record {
  image = set s.image address byte;
  packet = buffer_after packets address byte s;
  coefficients = buffer_after converter address byte s;
  waiting = mark_after address byte s;
}

-- "Read-only bits never change"
unfoldable pub stored : ℕ → ℕ → List ℕ → ℕ
stored address value image = merge 8 (read_only address) (get_or image address 0) value

-- the image that a write would leave
abbrev pub image_after : Chip → ℕ → ℕ → List ℕ
image_after s address value = set s.image address (stored address value s.image)

-- two packet holds are up
abbrev pub two : ℕ → Bool
two holds = (up avi holds && up audio holds) || ((up avi holds && up gc holds) || (up audio holds && up gc holds))

-- the packet holds after a byte is stored at an address
abbrev pub holds_after : ℕ → ℕ → List ℕ → ℕ
holds_after address byte image = cond (eqb address packets.register) byte (holds_of packets image)

-- what `store` promises: a byte is stored as it is, but where two packet holds are up or would be
abbrev pub Stores : Chip → ℕ → ℕ → Bool → Chip → Type 0
Stores s address byte done left =
    (done ≡ not (two (holds_of packets s.image) || two (holds_after address byte s.image))) × (left ≡ cond done (put address byte s) s)

-- refusal 13: "two packet holds are up, or the write would leave two up"
unfoldable pub refuses : Chip → ℕ → ℕ → Bool
refuses s address value = two (holds_of packets s.image) || two (holds_of packets (image_after s address value))

-- a line for each row that a write checks
abbrev pub write_tests : Chip → ℕ → ℕ → List Test
write_tests s address value = two_holds if refuses s address value ∷ []

-- a refused write has its number and leaves the state as it is
abbrev pub refused_write : Chip → ℕ → Wrote
refused_write s number = record { refusal = number; chip = s }

-- "Each write hands the state back with one byte changed in the image, and a buffer filled where a hold rises"
unfoldable pub write_of : Chip → ℕ → ℕ → Wrote
write_of s address value =
    answer (lowest (write_tests s address value)) (refused_write s)
    (record { refusal = 0; chip = put address (stored address value s.image) s })

-- a Vsync: where the hold is down the wait is over; "a mark beside a raised hold counts for nothing", and stays
unfoldable pub vsync_of : Chip → Chip
vsync_of s = lent_as s.image s.packet s.coefficients (held s && s.waiting)

-- what a write promises: the state that it hands back, and the number of its refusal; `OneWrite` ties it to document 01
abbrev pub Hands : Chip → ℕ → ℕ → Wrote → Type 0
Hands s address value wrote = wrote ≡ write_of s address value
