-- Runs of the chip machine over a list of events, whoever made the list: what a careful one does at every cut. "Demand 3 then allows Vsync
-- events anywhere between the writes" (document 02, request 04): a run of some writes is any list of events that has these writes in order.
use Rattle.std.specs.Prelude.{◌≡◌, ◌⊎◌, ◌≢◌, true, false, List, [], ◌∷◌, ℕ, suc, ◌<◌, ◌≤◌, length, get_or, take}
use Rattle.bits.specs.Merge.{under, bit}
use Rattle.map.specs.Map as reg
use Rattle.registers.specs.Classes.{read_only, mandated, free, bits}
use Rattle.matrix.specs.Matrix.{fields}
use Rattle.chip.specs.declared.Chip.{Chip}
use Rattle.chip.specs.Numbered.{Wrote}
use Rattle.chip.specs.Machine.{Write, ◌gets◌, avi, audio, matrix, packets, registers_of, in_use, coefficients, Muted}
use Rattle.chip.specs.Write.{write_of, vsync_of}
use Rattle.writes.specs.Rows.{is_written}

-- what happens to the chip: "a Vsync event joins the writes"
pub data Event : Type 0 where
  write : Write → Event
  vsync : Event

-- the number of its refusal, and the state after it; a refused write changes nothing, and a Vsync is never refused
abbrev pub happens : Event → Chip → Wrote
happens (write w) s = write_of s w.address w.value
happens vsync s = record { refusal = 0; chip = vsync_of s }

-- the state after a list of events
abbrev pub run : List Event → Chip → Chip
run [] s = s
run (e ∷ es) s = run es (happens e s).chip

-- "a cut after any write", or Vsync: the state after the first k events
abbrev pub cut : List Event → Chip → ℕ → Chip
cut es s k = run (take k es) s

-- the writes among some events, in their order, and how many of them the first k events have
abbrev pub writes_of : List Event → List Write
writes_of [] = []
writes_of (write w ∷ es) = w ∷ writes_of es
writes_of (vsync ∷ es) = writes_of es

abbrev pub writes_by : List Event → ℕ → ℕ
writes_by es k = length (writes_of (take k es))

-- the event at place k
abbrev pub event : List Event → ℕ → Event
event es k = get_or es k (write (0 gets 0))

-- ---- what is in use

-- "the AVI InfoFrame, the audio InfoFrame and the twelve matrix coefficients in use"
pub record InUse : Type 0 where
  pub avi : List ℕ
  pub audio : List ℕ
  pub matrix : List ℕ

abbrev pub all_in_use : Chip → InUse
all_in_use s = record { avi = in_use packets avi s; audio = in_use packets audio s; matrix = coefficients s }

-- what is in use where every hold is down and none waits: the registers of an image
abbrev pub standing : List ℕ → InUse
standing image = record { avi = registers_of avi image; audio = registers_of audio image; matrix = fields (registers_of matrix image) }

-- "each all old or all new"
abbrev pub Either : List ℕ → List ℕ → List ℕ → Type 0
Either old new x = (x ≡ old) ⊎ (x ≡ new)

-- "the picture is muted, and the AVI InfoFrame, the audio InfoFrame and the twelve matrix coefficients in use are each all old or all new"
pub record Between (old new : InUse) (t : Chip) : Type 0 where
  pub muted : Muted t
  pub avi : Either old.avi new.avi (in_use packets avi t)
  pub audio : Either old.audio new.audio (in_use packets audio t)
  pub matrix : Either old.matrix new.matrix (coefficients t)

-- ---- a careful list

-- a write to a register with a named bit, of one of the two packets or of Table 14, that "carries its mandated bits, the image's free .."
pub record Fair (image : List ℕ) (w : Write) : Type 0 where
  pub its_register : is_written w.address ≡ true
  pub its_mandated : under (mandated w.address) w.value ≡ under (mandated w.address) (bits w.address)
  pub its_free : under (free w.address) w.value ≡ under (free w.address) (get_or image w.address 0)

abbrev pub IsFair : Event → Chip → Type 0
IsFair (write w) s = Fair s.image w
IsFair vsync s = Unit {0}

-- `was` is what is old after some events, `new` what is in use after the last write and its Vsync
pub record Careful (was : List Event → InUse) (new : InUse) (es : List Event) (s : Chip) : Type 0 where
  -- every event is fair where it happens, and none is refused (13): "two packet holds are up, or the write would leave two up"
  pub fair : (k : ℕ) → k < length es → IsFair (event es k) (cut es s k)
  pub taken : (k : ℕ) → k < length es → (happens (event es k) (cut es s k)).refusal ≡ 0
  -- "From the first write until the last the picture is muted, and .. each all old or all new."
  pub between : (k : ℕ) → 0 < writes_by es k → writes_by es k < length (writes_of es) → Between (was (take k es)) new (cut es s k)

-- ---- what such a run leaves alone, and when a register may move

-- bit j of register a is in t what it is in s
abbrev pub Stays : ℕ → ℕ → Chip → Chip → Type 0
Stays a j s t = bit j (get_or t.image a 0) ≡ bit j (get_or s.image a 0)

pub record Covered (es : List Event) (s : Chip) : Type 0 where
  -- "where the chip takes the VIC from 0x3C, that is outside the group and the mute covers it": an event that moves any register but the
  -- mute's own has the picture muted before it and after it
  pub moves : (a k : ℕ) → a ≢ reg.av_mute → get_or (cut es s (suc k)).image a 0 ≢ get_or (cut es s k).image a 0
      → Muted (cut es s k) × Muted (cut es s (suc k))
  pub vic : (k : ℕ) → get_or (cut es s k).image reg.vic_manual 0 ≢ get_or s.image reg.vic_manual 0 → Muted (cut es s k) ⊎ (length (writes_of es) ≤ writes_by es k)

-- "HDCP and CEC are never built, and their bits (0xAF[7], 0xAF[4] among them) stay as the image has them": no cut has moved these two, nor
-- any free or read-only bit, nor any register that no list writes
pub record Untouched (es : List Event) (s : Chip) : Type 0 where
  pub protection : (k : ℕ) → Stays reg.hdcp_hdmi_cfg 7 s (cut es s k) × Stays reg.hdcp_hdmi_cfg 4 s (cut es s k)
  pub bits : (a j k : ℕ) → j < 8 → (bit j (free a) ≡ 1) ⊎ (bit j (read_only a) ≡ 1) → Stays a j s (cut es s k)
  pub unwritten : (a k : ℕ) → is_written a ≡ false → get_or (cut es s k).image a 0 ≡ get_or s.image a 0
