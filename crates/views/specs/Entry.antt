-- A write and a Vsync over the slices that the host lends, as the code does them. `WriteRefusals` and `VsyncRefusals` (Refusals), `Slices`,
-- `Entered` and `EnteredVsync` (Theorems) tie them to documents 01, "The chip machine", and 02, request 04.
use Rattle.std.specs.Prelude.{◌≡◌, Bool, cond, not, ◌&&◌, List, [], ◌∷◌, ℕ, eqb, length, get_or, replicate}
use Rattle.lists.specs.Over.{over}
use Rattle.refusals.specs.Rows.{image_length}
use Rattle.refusals.specs.Tests.{Test, ◌if◌, lowest, answer}
use Rattle.chip.specs.declared.Chip.{Chip}
use Rattle.chip.specs.Numbered.{Wrote}
use Rattle.chip.specs.Write.{lent_as, write_of, vsync_of}

-- the lengths of a state's three slices
abbrev pub is_sized : Chip → Bool
is_sized s = eqb (length s.image) 256 && (eqb (length s.packet) 32 && eqb (length s.coefficients) 24)

-- "The state gains a waiting mark": to the host a byte, 0 for none, anything else for one that waits
abbrev pub marked : ℕ → Bool
marked byte = not (eqb byte 0)

-- the byte that a call leaves: 0 or 1
abbrev pub mark_byte : Bool → ℕ
mark_byte waiting = cond waiting 1 0

-- the four slices that the host lends to the machine
pub record Lent : Type 0 where
  pub image : List ℕ
  pub packet : List ℕ
  pub coefficients : List ℕ
  pub mark : List ℕ

abbrev pub lent : List ℕ → List ℕ → List ℕ → List ℕ → Lent
lent image packet coefficients mark = record { image = image; packet = packet; coefficients = coefficients; mark = mark }

-- the slices as a state, and a state in slices
abbrev pub state_of : Lent → Chip
state_of l = lent_as l.image l.packet l.coefficients (marked (get_or l.mark 0 0))

abbrev pub slices_of : Chip → Lent
slices_of s = lent s.image s.packet s.coefficients (mark_byte s.waiting ∷ [])

-- what a call over the slices answers, and what it leaves in them
pub record SliceAnswer : Type 0 where
  pub refusal : ℕ
  pub slices : Lent

-- a refused call has its number and leaves every byte as it was; one that is taken leaves the state that it made
abbrev pub refused_entry : Lent → ℕ → SliceAnswer
refused_entry l number = record { refusal = number; slices = l }

abbrev pub taken_entry : Chip → SliceAnswer
taken_entry s = record { refusal = 0; slices = slices_of s }

-- the test of row 7: "image not of 256 bytes; in the machine also packet buffer not of 32, coefficient buffer not of 24", and a mark not of 1
abbrev pub is_lent : Lent → Bool
is_lent l =
    eqb (length l.image) 256 && (eqb (length l.packet) 32 && (eqb (length l.coefficients) 24 && eqb (length l.mark) 1))

abbrev pub enter_tests : Lent → List Test
enter_tests l = image_length if not (is_lent l) ∷ []

-- a write of the machine, in slices
abbrev pub wrote_in : Lent → Wrote → SliceAnswer
wrote_in l wrote = answer wrote.refusal (refused_entry l) (taken_entry wrote.chip)

-- else the machine's own write, with its own rows
unfoldable pub enter_of : Lent → ℕ → ℕ → SliceAnswer
enter_of l address value = answer (lowest (enter_tests l)) (refused_entry l) (wrote_in l (write_of (state_of l) address value))

-- or its own Vsync, which has none
unfoldable pub turn_of : Lent → SliceAnswer
turn_of l = answer (lowest (enter_tests l)) (refused_entry l) (taken_entry (vsync_of (state_of l)))

-- what `gathered` promises: slices of the machine's lengths, and a mark, are the state
abbrev pub Gathers : Chip → Chip → Type 0
Gathers s state =
    state
    ≡ lent_as (over s.image (replicate 256 0)) (over s.packet (replicate 32 0)) (over s.coefficients (replicate 24 0)) s.waiting

-- what a write and a Vsync over slices promise: the number, and the four slices after it
abbrev pub Writes : Lent → ℕ → ℕ → ℕ → Lent → Type 0
Writes l address value given left = (given ≡ (enter_of l address value).refusal) × (left ≡ (enter_of l address value).slices)

abbrev pub Turns : Lent → ℕ → Lent → Type 0
Turns l given left = (given ≡ (turn_of l).refusal) × (left ≡ (turn_of l).slices)
