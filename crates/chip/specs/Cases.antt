-- Documents 01, "The chip machine", and 02, request 04, in bare numbers: some states, what a write or a Vsync leaves of each, and what is
-- then in use. Every byte tells its place, so that no two can be exchanged.
use Rattle.std.specs.Prelude.{◌≡◌, Bool, true, false, List, [], ◌∷◌, ◌++◌, map, ℕ, zero, suc, ◌+◌, set, replicate}
use Rattle.chip.specs.declared.Chip.{Chip}
use Rattle.chip.specs.Numbered.{Wrote}
use Rattle.chip.specs.Machine.{Write, ◌gets◌, avi, audio, packets, in_use, coefficients, gc_in_use, enable_in_use, mode_in_use}
use Rattle.chip.specs.Write.{lent_as, write_of, vsync_of}

-- so many numbers from one on
abbrev pub starting_at : ℕ → ℕ → List ℕ
starting_at first zero = []
starting_at first (suc count) = first ∷ starting_at (first + 1) count

-- register a holds a, but for the two with the holds
abbrev pub image : ℕ → ℕ → List ℕ
image at4_a at1_a = set (set (starting_at 0x00 256) 0x4A at4_a) 0x1A at1_a

-- place i of the packet buffer holds 0x80 + i, and of the coefficient buffer 0xC0 + i
abbrev pub state : ℕ → ℕ → Bool → Chip
state at4_a at1_a waiting = lent_as (image at4_a at1_a) (starting_at 0x80 32) (starting_at 0xC0 24) waiting

-- no hold is up in 0x8A and in 0x1A, and nothing waits
abbrev pub idle : Chip
idle = state 0x8A 0x1A false

-- nothing waits, or a change does
abbrev pub marks : List Bool
marks = false ∷ true ∷ []

-- a write that is taken, and one that is refused by 13
abbrev pub taken : Chip → Wrote
taken s = record { refusal = 0; chip = s }

abbrev pub refused_by : Chip → Wrote
refused_by s = record { refusal = 13; chip = s }

-- the state after some writes
abbrev pub after_writes : List Write → Chip → Chip
after_writes [] s = s
after_writes (w ∷ ws) s = after_writes ws (write_of s w.address w.value).chip

-- 0x4A with the GC hold up, the audio hold, the AVI hold; with none or one of them, and with any
abbrev pub lone : List ℕ
lone = 0x8A ∷ 0x9A ∷ 0xAA ∷ 0xCA ∷ []

abbrev pub any : List ℕ
any = 0x8A ∷ 0x9A ∷ 0xAA ∷ 0xBA ∷ 0xCA ∷ 0xDA ∷ 0xEA ∷ 0xFA ∷ []

-- 13 by a byte of 0x4A, from 0x00 to 0x7F: two of [6:4] are up in 3, 5, 6 and 7
abbrev pub thirteens : List ℕ
thirteens = replicate 48 0 ++ replicate 16 13 ++ replicate 16 0 ++ replicate 48 13

abbrev pub twice : {A : Type 0} → List A → List A
twice l = l ++ l

-- the packet buffer, filled by GC, by audio, by AVI: "a packet fills its front, the rest stays"
abbrev pub buffer : List ℕ
buffer = starting_at 0x80 32

abbrev pub gc_in : List ℕ
gc_in = 0x4B ∷ starting_at 0x81 31

abbrev pub audio_in : List ℕ
audio_in = starting_at 0x70 13 ++ starting_at 0x8D 19

abbrev pub avi_in : List ℕ
avi_in = starting_at 0x52 16 ++ starting_at 0x90 16

-- the twelve coefficients of the registers, and of the coefficient buffer: "the low 13 bits" of each pair, 0x2021 as 0x0021 and 0xC0C1 as
-- 0x00C1
abbrev pub of_registers : List ℕ
of_registers = 0x1819 ∷ 0x1A1B ∷ 0x1C1D ∷ 0x1E1F ∷ 0x0021 ∷ 0x0223 ∷ 0x0425 ∷ 0x0627 ∷ 0x0829 ∷ 0x0A2B ∷ 0x0C2D ∷ 0x0E2F ∷ []

abbrev pub of_buffer : List ℕ
of_buffer = 0x00C1 ∷ 0x02C3 ∷ 0x04C5 ∷ 0x06C7 ∷ 0x08C9 ∷ 0x0ACB ∷ 0x0CCD ∷ 0x0ECF ∷ 0x10D1 ∷ 0x12D3 ∷ 0x14D5 ∷ 0x16D7 ∷ []

-- a change of the matrix: the hold up, 0x18 with enable 1 and mode 1 and A1 0x0708, A2's low byte; the hold down; C4's low byte while it waits
abbrev pub under_hold : List Write
under_hold = 0x1A gets 0x3A ∷ 0x18 gets 0xA7 ∷ 0x19 gets 0x08 ∷ 0x1B gets 0x09 ∷ []

abbrev pub lowered : List Write
lowered = under_hold ++ 0x1A gets 0x1A ∷ []

abbrev pub in_the_wait : List Write
in_the_wait = lowered ++ 0x2F gets 0x0A ∷ []

abbrev pub changed : List ℕ
changed = set (set (set of_registers 0 0x0708) 1 0x1A09) 11 0x0E0A

pub record MachineCases : Type 0 where
  -- 13 by the holds before the write, a row for each, and after it: "two packet holds are up, or the write would leave two up"
  pub refusals : let by_the_new : List ℕ = 0 ∷ 0 ∷ 0 ∷ 13 ∷ 0 ∷ 13 ∷ 13 ∷ 13 ∷ [] in
      let always : List ℕ = replicate 8 13 in
      (mark : Bool) → map (λ before. map (λ left. (write_of (state before 0x1A mark) 0x4A left).refusal) any) any
      ≡ by_the_new ∷ by_the_new ∷ by_the_new ∷ always ∷ by_the_new ∷ always ∷ always ∷ always ∷ []
  -- by every byte that is written there, and by every byte that stands there, of a write elsewhere; a refused write changes nothing
  pub written : map (λ byte. (write_of idle 0x4A byte).refusal) (starting_at 0x00 256) ≡ twice thirteens
  pub standing : map (λ byte. (write_of (state byte 0x1A false) 0x55 0xFF).refusal) (starting_at 0x00 256) ≡ twice thirteens
  pub kept : (mark : Bool)
      → (write_of (state 0x9A 0x1A mark) 0x4A 0xDA ≡ refused_by (state 0x9A 0x1A mark))
      × (write_of (state 0xEA 0x1A mark) 0x4A 0x8A ≡ refused_by (state 0xEA 0x1A mark))
  -- the GC hold alone, raised: taken, and "GC's is 0x4B alone"
  pub gc_alone : map (λ mark. write_of (state 0x8A 0x1A mark) 0x4A 0x9A) marks
      ≡ map (λ mark. taken (lent_as (image 0x9A 0x1A) gc_in (starting_at 0xC0 24) mark)) marks
  -- the packet buffer by the hold before the write, a row for each, and after it: the one that rises copies, though another falls
  pub copies : (mark : Bool) → map (λ before. map (λ left. (write_of (state before 0x1A mark) 0x4A left).chip.packet) lone) lone
      ≡ (buffer ∷ gc_in ∷ audio_in ∷ avi_in ∷ [])
      ∷ (buffer ∷ buffer ∷ audio_in ∷ avi_in ∷ [])
      ∷ (buffer ∷ gc_in ∷ buffer ∷ avi_in ∷ [])
      ∷ (buffer ∷ gc_in ∷ audio_in ∷ buffer ∷ []) ∷ []
  pub exchanged : write_of (state 0xAA 0x1A false) 0x4A 0xCA ≡ taken (lent_as (image 0xCA 0x1A) avi_in (starting_at 0xC0 24) false)
  -- "While it is up the buffer is sent; when down, the registers": the packets and the GC byte in use, by the hold that is up
  pub avi_in_use : map (λ holds. in_use packets avi (state holds 0x1A true)) lone ≡ starting_at 0x52 16 ∷ starting_at 0x52 16 ∷ starting_at 0x52 16 ∷ starting_at 0x80 16 ∷ []
  pub audio_in_use : map (λ holds. in_use packets audio (state holds 0x1A true)) lone ≡ starting_at 0x70 13 ∷ starting_at 0x70 13 ∷ starting_at 0x80 13 ∷ starting_at 0x70 13 ∷ []
  pub gc_in_use : map (λ holds. gc_in_use (state holds 0x1A true)) lone ≡ 0x4B ∷ 0x80 ∷ 0x4B ∷ 0x4B ∷ []
  -- the AVI hold raised, a register written under it, and lowered: all old, and all new at once
  pub under_the_hold : in_use packets avi (after_writes (0x4A gets 0xCA ∷ 0x55 gets 0xEE ∷ []) idle) ≡ starting_at 0x52 16
  pub at_once : in_use packets avi (after_writes (0x4A gets 0xCA ∷ 0x55 gets 0xEE ∷ 0x4A gets 0x8A ∷ []) idle) ≡ set (starting_at 0x52 16) 3 0xEE
  -- the coefficient hold. A rise copies the 24 "as they stood before the write", and in a wait nothing; either way no mark is left
  pub rise : write_of idle 0x1A 0x25 ≡ taken (lent_as (image 0x8A 0x25) buffer (starting_at 0x18 24) false)
  pub rise_in_a_wait : write_of (state 0x8A 0x1A true) 0x1A 0x25 ≡ taken (state 0x8A 0x25 false)
  -- a fall sets the mark, and copies nothing; a write that leaves the hold leaves both
  pub fall : (write_of (state 0x8A 0x3A false) 0x1A 0x05 ≡ taken (state 0x8A 0x05 true))
      × (write_of (state 0x8A 0x3A true) 0x1A 0x05 ≡ taken (state 0x8A 0x05 true))
  pub leaves_down : map (λ mark. write_of (state 0x8A 0x1A mark) 0x1A 0x05) marks ≡ map (λ mark. taken (state 0x8A 0x05 mark)) marks
  pub leaves_up : map (λ mark. write_of (state 0x8A 0x3A mark) 0x1A 0x25) marks ≡ map (λ mark. taken (state 0x8A 0x25 mark)) marks
  -- the mark by every byte: after a fall, and after a rise in a wait
  pub marked : let by32 : List Bool = replicate 32 true ++ replicate 32 false in
      (map (λ byte. (write_of (state 0x8A 0x3A false) 0x1A byte).chip.waiting) (starting_at 0x00 256) ≡ twice (twice by32))
      × (map (λ byte. (write_of (state 0x8A 0x1A true) 0x1A byte).chip.waiting) (starting_at 0x00 256) ≡ twice (twice by32))
  -- a Vsync ends a wait, and else changes nothing: a mark beside a raised hold stays; two packet holds do not matter
  pub vsyncs : (mark : Bool)
      → (vsync_of (state 0xFA 0x1A mark) ≡ state 0xFA 0x1A false) × (vsync_of (state 0xFA 0x3A mark) ≡ state 0xFA 0x3A mark)
  -- in use, by hold and mark: the buffer with the hold up or a mark, whatever the other; else the registers
  pub twelve : (coefficients (state 0x8A 0x1A false) ≡ of_registers) × (coefficients (state 0x8A 0x1A true) ≡ of_buffer)
      × (coefficients (state 0x8A 0x3A false) ≡ of_buffer) × (coefficients (state 0x8A 0x3A true) ≡ of_buffer)
  -- a change of the matrix, from 0x18 to C4: old until the Vsync, whatever is written in the wait; then the registers as they stand
  pub old : map (λ ws. coefficients (after_writes ws idle)) (under_hold ∷ lowered ∷ in_the_wait ∷ []) ≡ of_registers ∷ of_registers ∷ of_registers ∷ []
  pub waits : map (λ ws. (after_writes ws idle).waiting) (under_hold ∷ lowered ∷ in_the_wait ∷ []) ≡ false ∷ true ∷ true ∷ []
  pub new : (coefficients (vsync_of (after_writes in_the_wait idle)) ≡ changed) × ((vsync_of (after_writes in_the_wait idle)).waiting ≡ false)
  -- raised again in the wait: the change is dropped, the mark too, and a Vsync then changes nothing
  pub dropped : let again : Chip = after_writes (in_the_wait ++ 0x1A gets 0x3A ∷ []) idle in
      (again.coefficients ≡ starting_at 0x18 24) × (again.waiting ≡ false) × (coefficients again ≡ of_registers) × (vsync_of again ≡ again)
  -- "Enable and mode in 0x18[7:5] act at once", with the hold up, and in a wait; the coefficients are old
  pub enable : (mark : Bool) → map (λ byte. enable_in_use (after_writes (0x18 gets byte ∷ []) (state 0x8A 0x3A mark))) (starting_at 0x00 256)
      ≡ replicate 128 0 ++ replicate 128 1
  pub mode : (mark : Bool) → let quarter : ℕ → List ℕ = λ mode. replicate 32 mode in
      map (λ byte. mode_in_use (after_writes (0x18 gets byte ∷ []) (state 0x8A 0x3A mark))) (starting_at 0x00 256)
      ≡ quarter 0 ++ quarter 1 ++ quarter 2 ++ quarter 3 ++ quarter 0 ++ quarter 1 ++ quarter 2 ++ quarter 3
  pub in_a_wait : let s : Chip = after_writes (0x18 gets 0xC7 ∷ []) (state 0x8A 0x1A true) in
      (enable_in_use s ≡ 1) × (mode_in_use s ≡ 2) × (coefficients s ≡ of_buffer)
  -- "Read-only bits never change": 0x00 whole, 0x3E[7:2], 0x42[7:2], 0x9E[4:0], 0xC7[6:0]; the other bits are the value's
  pub zeros : map (λ a. (write_of idle a 0x00).chip.image) (0x00 ∷ 0x3E ∷ 0x42 ∷ 0x9E ∷ 0xC7 ∷ 0x55 ∷ [])
      ≡ map (λ w. set (image 0x8A 0x1A) w.address w.value)
      (0x00 gets 0x00 ∷ 0x3E gets 0x3C ∷ 0x42 gets 0x40 ∷ 0x9E gets 0x1E ∷ 0xC7 gets 0x47 ∷ 0x55 gets 0x00 ∷ [])
  pub ones : map (λ a. (write_of idle a 0xFF).chip.image) (0x00 ∷ 0x3E ∷ 0x42 ∷ 0x9E ∷ 0xC7 ∷ 0x55 ∷ [])
      ≡ map (λ w. set (image 0x8A 0x1A) w.address w.value)
      (0x00 gets 0x00 ∷ 0x3E gets 0x3F ∷ 0x42 gets 0x43 ∷ 0x9E gets 0xFE ∷ 0xC7 gets 0xC7 ∷ 0x55 gets 0xFF ∷ [])
  -- the definition takes any numbers: past the last register nothing is written and no hold moves; of a value the low eight bits count
  pub past_the_end : (write_of idle 0x100 0xFF ≡ taken idle) × (write_of idle 0x14A 0xFA ≡ taken idle) × (write_of idle 0x11A 0x3A ≡ taken idle)
  pub low_eight : (write_of idle 0x55 0x1EE ≡ write_of idle 0x55 0xEE) × (write_of idle 0x4A 0x19A ≡ write_of idle 0x4A 0x9A)
