-- Document 01, "The chip machine" (what is sent, the mute) and "Refusal numbers", and document 02, request 04, in bare numbers: what the
-- calls answer over some slices. In them every byte tells its place.
use Rattle.std.specs.Prelude.{◌≡◌, List, [], ◌∷◌, ◌++◌, map, ℕ, set, replicate}
use Rattle.chip.specs.Cases.{starting_at, image, buffer, gc_in, lone, any}
use Rattle.views.specs.Numbered.{Part}
use Rattle.views.specs.Entry.{Lent, lent, SliceAnswer, enter_of, turn_of}
use Rattle.views.specs.View.{view_refusal, sent_of, sent_part, start_in, mute_of}
use Rattle.views.specs.Converter.{matrix_answer, matrix_out}

-- the registers, with 0x4A as it is given
abbrev pub held_slices : ℕ → List ℕ
held_slices at4_a = image at4_a 0x1A

-- a part that is not refused
abbrev pub part : ℕ → ℕ → ℕ → Part
part held_slices start len = record { refusal = 0; held = held_slices; start = start; len = len }

-- the four slices, with 0x4A, 0x1A and the mark as they are given; and what a call answers that leaves them so
abbrev pub cases_slices : ℕ → ℕ → ℕ → Lent
cases_slices at4_a at1_a mark = lent (image at4_a at1_a) buffer (starting_at 0xC0 24) (mark ∷ [])

abbrev pub leaves : ℕ → Lent → SliceAnswer
leaves refusal l = record { refusal = refusal; slices = l }

-- the same with one slice of another length
abbrev pub other_bytes : ℕ → List Lent
other_bytes at4_a =
    let ones : ℕ → Lent = λ count. lent (held_slices at4_a) buffer (starting_at 0xC0 24) (replicate count 1) in
    lent (starting_at 0x00 255) buffer (starting_at 0xC0 24) (1 ∷ [])
    ∷ lent (held_slices at4_a ++ 0 ∷ []) buffer (starting_at 0xC0 24) (1 ∷ [])
    ∷ lent (held_slices at4_a) (starting_at 0x80 31) (starting_at 0xC0 24) (1 ∷ [])
    ∷ lent (held_slices at4_a) (starting_at 0x80 33) (starting_at 0xC0 24) (1 ∷ [])
    ∷ lent (held_slices at4_a) buffer (starting_at 0xC0 23) (1 ∷ [])
    ∷ lent (held_slices at4_a) buffer (starting_at 0xC0 25) (1 ∷ [])
    ∷ ones 0 ∷ ones 2 ∷ []

-- the registers with mode 2, and 0x1A as it is given; the matrix in use, in 27 lent bytes of 0xEE: of the registers, and of the buffer.
-- 0x1819 is negative, so its high byte is 0xF8
abbrev pub mode2 : ℕ → List ℕ
mode2 at1_a = set (image 0x8A at1_a) 0x18 0x58

abbrev pub room_for : List ℕ
room_for = replicate 27 0xEE

abbrev pub from_registers : List ℕ
from_registers =
    2
    ∷ 0xF8 ∷ 0x19 ∷ 0xFA ∷ 0x1B ∷ 0xFC ∷ 0x1D ∷ 0xFE ∷ 0x1F ∷ 0x00 ∷ 0x21 ∷ 0x02 ∷ 0x23
    ∷ 0x04 ∷ 0x25 ∷ 0x06 ∷ 0x27 ∷ 0x08 ∷ 0x29 ∷ 0x0A ∷ 0x2B ∷ 0x0C ∷ 0x2D ∷ 0x0E ∷ 0x2F ∷ 0xEE ∷ 0xEE ∷ []

abbrev pub from_buffer : List ℕ
from_buffer =
    2
    ∷ 0x00 ∷ 0xC1 ∷ 0x02 ∷ 0xC3 ∷ 0x04 ∷ 0xC5 ∷ 0x06 ∷ 0xC7 ∷ 0x08 ∷ 0xC9 ∷ 0x0A ∷ 0xCB
    ∷ 0x0C ∷ 0xCD ∷ 0x0E ∷ 0xCF ∷ 0xF0 ∷ 0xD1 ∷ 0xF2 ∷ 0xD3 ∷ 0xF4 ∷ 0xD5 ∷ 0xF6 ∷ 0xD7 ∷ 0xEE ∷ 0xEE ∷ []

pub record ViewCases : Type 0 where
  -- the part that is sent, by the hold that is up: none, GC, audio, AVI
  pub avi : map (λ holds. sent_part (held_slices holds) buffer 0) lone ≡ part 0 0x52 16 ∷ part 0 0x52 16 ∷ part 0 0x52 16 ∷ part 1 0 16 ∷ []
  pub audio : map (λ holds. sent_part (held_slices holds) buffer 1) lone ≡ part 0 0x70 13 ∷ part 0 0x70 13 ∷ part 1 0 13 ∷ part 0 0x70 13 ∷ []
  -- its bytes, and where in memory it starts
  pub avi_bytes : map (λ holds. sent_of (held_slices holds) buffer 0) lone ≡ starting_at 0x52 16 ∷ starting_at 0x52 16 ∷ starting_at 0x52 16 ∷ starting_at 0x80 16 ∷ []
  pub audio_bytes : map (λ holds. sent_of (held_slices holds) buffer 1) lone ≡ starting_at 0x70 13 ∷ starting_at 0x70 13 ∷ starting_at 0x80 13 ∷ starting_at 0x70 13 ∷ []
  pub starts : map (λ holds. start_in (sent_part (held_slices holds) buffer 0) (1, 0x1000) (2, 0x2000)) lone
      ≡ (1, 0x1052) ∷ (1, 0x1052) ∷ (1, 0x1052) ∷ (2, 0x2000) ∷ []
  -- "Another number is refusal 5", 7, and 13 by any two holds; 5 before 7 before 13; an empty part
  pub asked : map (view_refusal (held_slices 0x8A) buffer) (0 ∷ 1 ∷ 2 ∷ 3 ∷ 256 ∷ []) ≡ 0 ∷ 0 ∷ 5 ∷ 5 ∷ 5 ∷ []
  pub image_lengths : map (λ count. view_refusal (starting_at 0x00 count) buffer 1) (0 ∷ 255 ∷ 257 ∷ []) ≡ 7 ∷ 7 ∷ 7 ∷ []
  pub packet_lengths : map (λ count. view_refusal (held_slices 0x8A) (starting_at 0x80 count) 1) (0 ∷ 31 ∷ 33 ∷ []) ≡ 7 ∷ 7 ∷ 7 ∷ []
  pub holds : map (λ holds. view_refusal (held_slices holds) buffer 1) any ≡ 0 ∷ 0 ∷ 0 ∷ 13 ∷ 0 ∷ 13 ∷ 13 ∷ 13 ∷ []
  pub order : (view_refusal [] buffer 2 ≡ 5) × (view_refusal (held_slices 0xFA) [] 1 ≡ 7)
  pub empty : map (λ holds. sent_of (held_slices holds) buffer 0) (0xBA ∷ 0xFA ∷ []) ≡ [] ∷ [] ∷ []
  pub zeros : sent_part (held_slices 0xFA) buffer 0 ≡ record { refusal = 13; held = 0; start = 0; len = 0 }
  -- the mute, of 0x4B and with the GC hold up of the buffer's first byte: "Muted: set bit 1, clear bit 0. Open: set 0, clear 1."
  pub mute : map (λ byte. (mute_of (set (held_slices 0x8A) 0x4B byte) buffer).mute) (0x00 ∷ 0x40 ∷ 0x80 ∷ 0xC0 ∷ 0x3F ∷ []) ≡ 0 ∷ 1 ∷ 2 ∷ 3 ∷ 0 ∷ []
  pub mute_held : map (λ byte. (mute_of (held_slices 0x9A) (byte ∷ starting_at 0x81 31)).mute) (0x00 ∷ 0x40 ∷ 0x80 ∷ 0xC0 ∷ 0x3F ∷ []) ≡ 0 ∷ 1 ∷ 2 ∷ 3 ∷ 0 ∷ []
  pub mute_refused : map (λ holds. (mute_of (held_slices holds) buffer).refusal) any ≡ 0 ∷ 0 ∷ 0 ∷ 13 ∷ 0 ∷ 13 ∷ 13 ∷ 13 ∷ []
  pub mute_lengths : (mute_of (starting_at 0x00 255) buffer ≡ record { refusal = 7; mute = 0 }) × (mute_of (held_slices 0xFA) [] ≡ record { refusal = 7; mute = 0 })
  -- the matrix in use, by the mark's byte: with the hold down, and with it up
  pub matrix_down : map (λ mark. matrix_out (mode2 0x1A) (starting_at 0xC0 24) mark room_for) (0 ∷ 1 ∷ 2 ∷ 255 ∷ [])
      ≡ from_registers ∷ from_buffer ∷ from_buffer ∷ from_buffer ∷ []
  pub matrix_up : map (λ mark. matrix_out (mode2 0x3A) (starting_at 0xC0 24) mark room_for) (0 ∷ 1 ∷ 255 ∷ []) ≡ from_buffer ∷ from_buffer ∷ from_buffer ∷ []
  pub matrix_count : map (λ count. matrix_answer (mode2 0x1A) (starting_at 0xC0 24) (replicate count 0xEE)) (0 ∷ 24 ∷ 25 ∷ 27 ∷ [])
      ≡ record { refusal = 10; count = 0 } ∷ record { refusal = 10; count = 0 }
      ∷ record { refusal = 0; count = 25 } ∷ record { refusal = 0; count = 25 } ∷ []
  pub matrix_lengths : (matrix_answer (starting_at 0x00 255) (starting_at 0xC0 24) [] ≡ record { refusal = 7; count = 0 })
      × (matrix_answer (mode2 0x1A) (starting_at 0xC0 23) [] ≡ record { refusal = 7; count = 0 })
  -- a write over the four slices: a fall leaves mark 1, a rise 0; a mark of 7 that stays is then 1; in a refused write it is 7 still
  pub fall : enter_of (cases_slices 0x8A 0x3A 0) 0x1A 0x05 ≡ leaves 0 (cases_slices 0x8A 0x05 1)
  pub rise : enter_of (cases_slices 0x8A 0x1A 7) 0x1A 0x25 ≡ leaves 0 (cases_slices 0x8A 0x25 0)
  pub gc_alone : enter_of (cases_slices 0x8A 0x1A 7) 0x4A 0x9A ≡ leaves 0 (lent (image 0x9A 0x1A) gc_in (starting_at 0xC0 24) (1 ∷ []))
  pub refused : enter_of (cases_slices 0x9A 0x1A 7) 0x4A 0xDA ≡ leaves 13 (cases_slices 0x9A 0x1A 7)
  -- a Vsync: of a wait, of a mark beside a raised hold, of no mark; two packet holds do not matter
  pub vsyncs : map turn_of (cases_slices 0x8A 0x1A 7 ∷ cases_slices 0x8A 0x3A 7 ∷ cases_slices 0x8A 0x1A 0 ∷ cases_slices 0xFA 0x1A 1 ∷ [])
      ≡ leaves 0 (cases_slices 0x8A 0x1A 0) ∷ leaves 0 (cases_slices 0x8A 0x3A 1) ∷ leaves 0 (cases_slices 0x8A 0x1A 0) ∷ leaves 0 (cases_slices 0xFA 0x1A 0) ∷ []
  -- 7 by each length, before 13
  pub write_lengths : map (λ l. (enter_of l 0x4A 0x9A).refusal) (other_bytes 0x8A ++ other_bytes 0xFA) ≡ replicate 16 7
  pub vsync_lengths : map (λ l. (turn_of l).refusal) (other_bytes 0x8A ++ other_bytes 0xFA) ≡ replicate 16 7
