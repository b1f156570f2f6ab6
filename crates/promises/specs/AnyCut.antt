-- Demand 3, of the planning entry: "Take an accepted request, a chip in a state from which it was accepted, and a cut after any write".
use Rattle.std.specs.Prelude.{◌≡◌, List, ℕ, ◌%◌, ◌≤◌, length, get_or, drop}
use Rattle.frames.specs.Frames.{avi_frame}
use Rattle.request.specs.Read.{read_of}
use Rattle.chip.specs.declared.Chip.{Chip}
use Rattle.chip.specs.Machine.{Write, avi, audio, packets, in_use, coefficients, enable_in_use, mode_in_use}
use Rattle.writes.specs.List.{write_list}
use Rattle.plan.specs.Plan.{plan_of}
use Rattle.cut.specs.Run.{Event, writes_of}
use Rattle.cut.specs.Demand.{to_its_end, Cut, cuts, PlannedAgain, Demand3}
use Rattle.views.specs.Entry.{Lent, state_of}
use Rattle.views.specs.Sized.{LentSized}
use Rattle.plan.specs.Places.{audio_packet}
use Rattle.promises.specs.Rules.{asked, Listed}
use Rattle.promises.specs.LentBytes.{entered_cuts, OverSlices}

-- the list of a request on an image
abbrev pub list_of : List ℕ → List ℕ → List Write
list_of input = write_list (asked input)

-- a packet's version and length, whose named bits are [2:0] and [4:0]; the bits beside them are free, and the image's
abbrev pub Headed : ℕ → ℕ → List ℕ → Type 0
Headed version count registers = (get_or registers 0 0 % 8 ≡ version) × (get_or registers 1 0 % 32 ≡ count)

pub record AnyCut (input buffer : List ℕ) (s : Chip) : Type 0 where
  -- the list that planning leaves in the lent buffer, with its count, is the one that the demand is about
  pub listed : Listed input s.image buffer
  -- every clause of the demand, at every cut of every run
  pub demand : Demand3 (list_of input) (asked input) s
  -- "planned again on the registers as the cut left them", after one cut, two, or any number of them, with any buffer: the request is accepted,
  -- and its list on that image is planned
  pub again : (cs : List Cut) (room : List ℕ) → PlannedAgain (list_of input) cs s → 256 ≤ length room → let image : List ℕ = (cuts cs s).image in
      ((plan_of input image room).refusal ≡ 0) × Listed input image room
  -- "After the last, all are new": what is in use is the request's own. "AVI header 0x82, 0x02, 0x0D; audio header 0x84, 0x01, 0x0A"
  pub head_avi : Headed 0x02 0x0D (in_use packets avi (to_its_end (list_of input) s))
  pub head_audio : Headed 0x01 0x0A (in_use packets audio (to_its_end (list_of input) s))
  pub new_avi : drop 2 (in_use packets avi (to_its_end (list_of input) s)) ≡ drop 3 (avi_frame (read_of input).request.video)
  pub new_audio : drop 2 (in_use packets audio (to_its_end (list_of input) s)) ≡ drop 3 (audio_packet (read_of input).request.sound)
  pub new_matrix : coefficients (to_its_end (list_of input) s) ≡ (read_of input).request.matrix.coefficients
  -- "Enable and mode in 0x18[7:5] act at once." "With a matrix: converter on. No matrix: converter off, mode 1"
  pub new_enable : enable_in_use (to_its_end (list_of input) s) ≡ (read_of input).request.matrix.on
  pub new_mode : mode_in_use (to_its_end (list_of input) s) ≡ (read_of input).request.matrix.mode
  -- the pairs in the lent buffer are that list, whatever buffer is lent (`Listed.pairs`); written over slices of the machine's lengths that hold
  -- the state, after any cuts, they run as the machine does
  pub slices : (l : Lent) → LentSized l → state_of l ≡ s → (cs : List Cut) → PlannedAgain (list_of input) cs s
      → (es : List Event) → writes_of es ≡ list_of input (cuts cs s).image → OverSlices es (entered_cuts cs l) (cuts cs s)

-- demand 3: "Take an accepted request, a chip in a state from which it was accepted"
abbrev pub EveryCut : Type 0
EveryCut = (input buffer : List ℕ) (s : Chip) → (plan_of input s.image buffer).refusal ≡ 0 → AnyCut input buffer s
