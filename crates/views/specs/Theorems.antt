-- What the calls over slices answer, in the machine's own words: documents 01, "The chip machine", and 02, request 04. What each is refused
-- by is `Refusals`.
use Rattle.std.specs.Prelude.{◌≡◌, ◌↔◌, ◌≢◌, true, false, [], ◌∷◌, ℕ, get_or}
use Rattle.chip.specs.declared.Chip.{Chip}
use Rattle.chip.specs.Machine.{packets, holds_of}
use Rattle.chip.specs.Write.{two, write_of, vsync_of}
use Rattle.chip.specs.Step.{TwoUp}
use Rattle.views.specs.Entry.{marked, Lent, state_of, slices_of, enter_of, turn_of}
use Rattle.views.specs.Sized.{LentSized}
use Rattle.views.specs.Refusals.{Sized}
use Rattle.views.specs.Faces.{Faces}

-- what a call takes the slices for: a mark of 0 is none, and anything else waits
pub record Takes (l : Lent) (s : Chip) : Type 0 where
  pub image : s.image ≡ l.image
  pub packet : s.packet ≡ l.packet
  pub coefficients : s.coefficients ≡ l.coefficients
  pub waits : get_or l.mark 0 0 ≢ 0 → s.waiting ≡ true
  pub none : get_or l.mark 0 0 ≡ 0 → s.waiting ≡ false

-- what a call that is taken leaves in them: a mark of 0 or 1
pub record Leaves (s : Chip) (l : Lent) : Type 0 where
  pub image : l.image ≡ s.image
  pub packet : l.packet ≡ s.packet
  pub coefficients : l.coefficients ≡ s.coefficients
  pub waits : s.waiting ≡ true → l.mark ≡ 1 ∷ []
  pub none : s.waiting ≡ false → l.mark ≡ 0 ∷ []

-- the state in the slices, and the slices of a state
pub record Slices : Type 0 where
  pub marks : (byte : ℕ) → (marked byte ≡ true) ↔ (byte ≢ 0)
  pub takes : (l : Lent) → Takes l (state_of l)
  pub leaves : (s : Chip) → Leaves s (slices_of s)
  -- so nothing of a state is lost between two calls
  pub back : (s : Chip) → state_of (slices_of s) ≡ s

-- whatever the state, of the lengths above
abbrev pub AnyFaces : Type 0
AnyFaces = (s : Chip) → Sized s → (TwoUp s.image → ⊥) → Faces s

-- a write over slices of these lengths is the machine's own, and keeps them; where it is taken, the calls answer what the machine then has
-- in use
pub record Entered (l : Lent) (address value : ℕ) : Type 0 where
  pub number : (enter_of l address value).refusal ≡ (write_of (state_of l) address value).refusal
  pub taken : (write_of (state_of l) address value).refusal ≡ 0
      → enter_of l address value ≡ record { refusal = 0; slices = slices_of (write_of (state_of l) address value).chip }
  pub refused : (write_of (state_of l) address value).refusal ≢ 0
      → enter_of l address value ≡ record { refusal = (write_of (state_of l) address value).refusal; slices = l }
  -- taken or refused, the slices' state is the one that the machine hands back
  pub state : state_of (enter_of l address value).slices ≡ (write_of (state_of l) address value).chip
  pub sized : LentSized (enter_of l address value).slices
  pub faces : (enter_of l address value).refusal ≡ 0 → Faces (state_of (enter_of l address value).slices)

abbrev pub AnyEntered : Type 0
AnyEntered = (l : Lent) → LentSized l → (address value : ℕ) → Entered l address value

-- a Vsync likewise, which is always taken; two packet holds that are up do not matter to it
pub record EnteredVsync (l : Lent) : Type 0 where
  pub taken : turn_of l ≡ record { refusal = 0; slices = slices_of (vsync_of (state_of l)) }
  pub state : state_of (turn_of l).slices ≡ vsync_of (state_of l)
  pub sized : LentSized (turn_of l).slices
  pub faces : two (holds_of packets l.image) ≡ false → Faces (state_of (turn_of l).slices)

abbrev pub AnyEnteredVsync : Type 0
AnyEnteredVsync = (l : Lent) → LentSized l → EnteredVsync l
