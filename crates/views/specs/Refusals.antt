-- What is proved of the refusals of the calls over slices, and which slice is sent: document 01, "Refusal numbers" and "The chip machine".
use Rattle.std.specs.Prelude.{◌≡◌, ◌≢◌, ◌⊎◌, cond, List, [], ◌∷◌, ℕ, ◌<◌, eqb, length, get_or, take, drop}
use Rattle.bits.specs.Merge.{bit}
use Rattle.refusals.specs.Rows.{field_out_of_range, image_length, buffer_short, two_holds, Condition, ◌when◌, Given}
use Rattle.chip.specs.declared.Chip.{Chip}
use Rattle.chip.specs.Step.{TwoUp, write_rules}
use Rattle.views.specs.Numbered.{Part}
use Rattle.views.specs.Entry.{Lent, state_of, enter_of, turn_of}
use Rattle.views.specs.View.{view_refusal, sent_of, sent_part, mute_of}
use Rattle.views.specs.Converter.{matrix_answer, matrix_out}

-- `WrongLengths` of the four slices: the mark is one byte
abbrev pub WrongLent : Lent → Type 0
WrongLent l = (length l.image ≢ 256) ⊎ (length l.packet ≢ 32) ⊎ (length l.coefficients ≢ 24) ⊎ (length l.mark ≢ 1)

-- "a machine write 7 and 13": when each applies; a Vsync 7 alone
abbrev pub enter_rules : Lent → ℕ → ℕ → List Condition
enter_rules l address value = image_length when WrongLent l ∷ write_rules (state_of l) address value

abbrev pub turn_rules : Lent → List Condition
turn_rules l = image_length when WrongLent l ∷ []

-- "a view 5, 7 and 13"; the mute is not asked for by number
abbrev pub lent_rules : List ℕ → List ℕ → List Condition
lent_rules image packet = image_length when ((length image ≢ 256) ⊎ (length packet ≢ 32)) ∷ two_holds when TwoUp image ∷ []

abbrev pub view_rules : List ℕ → List ℕ → ℕ → List Condition
view_rules image packet which = field_out_of_range when (1 < which) ∷ lent_rules image packet

-- the matrix in use: 7, and 10 for a buffer that is short of its 25 bytes
abbrev pub matrix_rules : List ℕ → List ℕ → List ℕ → List Condition
matrix_rules image buffer out = image_length when ((length image ≢ 256) ⊎ (length buffer ≢ 24)) ∷ buffer_short when (length out < 25) ∷ []

pub record WriteRefusals (l : Lent) (address value : ℕ) : Type 0 where
  pub given : Given (enter_rules l address value) (enter_of l address value).refusal
  -- a refused write changes no lent byte, the mark's neither
  pub kept : (enter_of l address value).refusal ≢ 0 → (enter_of l address value).slices ≡ l

pub record VsyncRefusals (l : Lent) : Type 0 where
  pub given : Given (turn_rules l) (turn_of l).refusal
  pub kept : (turn_of l).refusal ≢ 0 → (turn_of l).slices ≡ l

-- "a part of the register image or of the buffer, whichever the chip reads": the bytes that the numbers of a part name
abbrev pub bytes_in : Part → List ℕ → List ℕ → List ℕ
bytes_in p image packet = take p.len (drop p.start (cond (eqb p.held 1) packet image))

-- "whichever the chip reads", in numbers: with the bit of its hold 1 the front of the buffer, held 1, and else the registers, held 0
abbrev pub SentFrom : ℕ → ℕ → ℕ → Part → Type 0
SentFrom hold first count p =
    (hold ≡ 1 → p ≡ record { refusal = 0; held = 1; start = 0; len = count })
    × (hold ≡ 0 → p ≡ record { refusal = 0; held = 0; start = first; len = count })

pub record ViewRefusals (image packet : List ℕ) : Type 0 where
  -- a packet, by "a call beside it" and with its part
  pub view : (which : ℕ) → Given (view_rules image packet which) (view_refusal image packet which)
  pub part : (which : ℕ) → (sent_part image packet which).refusal ≡ view_refusal image packet which
  -- "a refused view is an empty part": no byte is sent, and zeros stand beside the number
  pub empty : (which : ℕ) → view_refusal image packet which ≢ 0
      → (sent_of image packet which ≡ [])
      × (sent_part image packet which ≡ record { refusal = view_refusal image packet which; held = 0; start = 0; len = 0 })
  -- "16 for AVI, 13 for audio", from their versions on; "0x4A[6] AVI, [5] audio"
  pub avi : view_refusal image packet 0 ≡ 0 → SentFrom (bit 6 (get_or image 0x4A 0)) 0x52 16 (sent_part image packet 0)
  pub audio : view_refusal image packet 1 ≡ 0 → SentFrom (bit 5 (get_or image 0x4A 0)) 0x70 13 (sent_part image packet 1)
  -- the mute, and zero beside a refusal
  pub mute : Given (lent_rules image packet) (mute_of image packet).refusal
  pub zero : (mute_of image packet).refusal ≢ 0 → (mute_of image packet).mute ≡ 0
  -- the numbers of a part name its bytes
  pub bytes : (which : ℕ) → bytes_in (sent_part image packet which) image packet ≡ sent_of image packet which

-- a refusal has a count of zero, and leaves the lent buffer as it was
pub record MatrixRefusals (image buffer : List ℕ) (mark : ℕ) (out : List ℕ) : Type 0 where
  pub given : Given (matrix_rules image buffer out) (matrix_answer image buffer out).refusal
  pub kept : (matrix_answer image buffer out).refusal ≢ 0
      → ((matrix_answer image buffer out).count ≡ 0) × (matrix_out image buffer mark out ≡ out)

-- "image not of 256 bytes; in the machine also packet buffer not of 32, coefficient buffer not of 24"
abbrev pub WrongLengths : Chip → Type 0
WrongLengths s = (length s.image ≢ 256) ⊎ (length s.packet ≢ 32) ⊎ (length s.coefficients ≢ 24)

pub record Sized (s : Chip) : Type 0 where
  pub image : length s.image ≡ 256
  pub packet : length s.packet ≡ 32
  pub coefficients : length s.coefficients ≡ 24
