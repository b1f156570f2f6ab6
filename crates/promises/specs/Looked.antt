-- What planning, decoding and the reading of a vendor's list look at in an image: the registers that a list writes, `is_written`, and no
-- other. So a host need read no other.
use Rattle.std.specs.Prelude.{◌≡◌, true, List, [], ◌∷◌, ◌++◌, ℕ, ◌<◌, length, get_or}
use Rattle.lists.specs.Among.{among}
use Rattle.bits.specs.Merge.{bit}
use Rattle.matrix.specs.Matrix.{Bytes}
use Rattle.chip.specs.declared.Chip.{Chip}
use Rattle.writes.specs.Rows.{from, is_written}
use Rattle.plan.specs.Plan.{plan_of, plan_buffer}
use Rattle.decode.specs.Decode.{decode_of, decoded_buffer}
use Rattle.decode.specs.Theorems.{Counts}
use Rattle.vendor.specs.Found.{vet_of}
use Rattle.promises.specs.LentBytes.{pairs_left}
use Rattle.promises.specs.AnyCut.{list_of, AnyCut}

-- these registers in rows, as the header has them: the first of each row, and how many
abbrev pub rows_looked : List (ℕ × ℕ)
rows_looked =
    (0x01, 3) ∷ (0x07, 4) ∷ (0x0C, 1) ∷ (0x15, 2) ∷ (0x18, 29) ∷ (0x3B, 2) ∷ (0x40, 1) ∷ (0x44, 1) ∷ (0x48, 1) ∷ (0x4A, 3) ∷ (0x52, 16) ∷
    (0x70, 13) ∷ (0x98, 1) ∷ (0x9A, 1) ∷ (0x9C, 2) ∷ (0xA2, 2) ∷ (0xAF, 1) ∷ (0xE0, 1) ∷ (0xF9, 1) ∷ []

abbrev pub in_rows : List (ℕ × ℕ) → List ℕ
in_rows [] = []
in_rows (r ∷ rs) = from r.0 r.1 ++ in_rows rs

abbrev pub looked : List ℕ
looked = in_rows rows_looked

-- two images of the same length that agree at these registers, whatever the others hold
pub record Agree (image other : List ℕ) : Type 0 where
  pub long : length other ≡ length image
  pub bytes : (a : ℕ) → is_written a ≡ true → get_or other a 0 ≡ get_or image a 0

-- that agree at the named and mandated bits of these registers; `Bytes` is true of every slice
pub record AgreeInBits (image other : List ℕ) : Type 0 where
  pub long : length other ≡ length image
  pub slices : Bytes image × Bytes other
  pub bits : (a j : ℕ) → is_written a ≡ true → j < 8 → Counts a j → bit j (get_or other a 0) ≡ bit j (get_or image a 0)

pub record Looked : Type 0 where
  -- the rows have these registers, and no other: 85
  pub rows : (a : ℕ) → a < 256 → among a looked ≡ is_written a
  pub count : length looked ≡ 85
  -- planning: the same refusal and the same count, and the same bytes in the buffer
  pub answer : (input image other buffer : List ℕ) → Agree image other → plan_of input other buffer ≡ plan_of input image buffer
  pub buffer : (input image other buffer : List ℕ) → Agree image other → plan_buffer input other buffer ≡ plan_buffer input image buffer
  -- demand 3 for a host that has read these registers alone: what it is given is the list for the registers that the chip has
  pub demand : (input other buffer : List ℕ) (s : Chip) → Agree s.image other → (plan_of input other buffer).refusal ≡ 0
      → (pairs_left input other buffer ≡ list_of input s.image) × AnyCut input buffer s
  -- decoding: the same refusal and count, and the same bytes in the room; the free and the read-only bits of these registers do not matter
  pub decoding : (image other room : List ℕ) → AgreeInBits image other
      → (decode_of other room ≡ decode_of image room) × (decoded_buffer other room ≡ decoded_buffer image room)
  -- the verdict on a vendor's list, on a state with the same two buffers and the same mark
  pub vet : (s t : Chip) (list : List ℕ) → Agree s.image t.image → t.packet ≡ s.packet → t.coefficients ≡ s.coefficients
      → t.waiting ≡ s.waiting → vet_of t list ≡ vet_of s list
