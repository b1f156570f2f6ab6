-- Document 01, "The write list", in bare numbers: the writes in their order, with nothing left out, and so the registers that a list may touch.
use Rattle.std.specs.Prelude.{◌≡◌, Bool, false, cond, not, ◌||◌, List, [], ◌∷◌, ◌++◌, map, ℕ, zero, suc, ◌<◌, eqb}
use Rattle.lists.specs.Among.{among}
use Rattle.registers.specs.Rows.{table14_bits}
use Rattle.registers.specs.Classes.{named}

-- the bits of a register that hold or mute: "0x4A[6] AVI, [5] audio", "Coefficient hold 0x1A[5]", and AV mute in 0x4B, [7] to open and
-- [6] to mute
abbrev pub hold_mask : ℕ → ℕ
hold_mask a = cond (eqb a 0x4A) 0x60 (cond (eqb a 0x1A) 0x20 (cond (eqb a 0x4B) 0xC0 0))

-- count addresses from `first` on
abbrev pub from : ℕ → ℕ → List ℕ
from first zero = []
from first (suc count) = first ∷ from (suc first) count

-- "Table 14 registers"
abbrev pub table14 : List ℕ
table14 = 0x98 ∷ 0x9A ∷ 0x9C ∷ 0x9D ∷ 0xA2 ∷ 0xA3 ∷ 0xE0 ∷ 0xF9 ∷ []

-- "the other named registers, those in no other step"
abbrev pub others : List ℕ
others =
    0x01 ∷ 0x02 ∷ 0x03 ∷ 0x07 ∷ 0x08 ∷ 0x09 ∷ 0x0A ∷ 0x0C ∷ 0x15 ∷ 0x16 ∷ 0x30 ∷ 0x31 ∷ 0x32 ∷ 0x33 ∷ 0x34 ∷ 0x3B ∷ 0x3C ∷ 0x40 ∷ 0x44 ∷
    0x48 ∷ 0x4C ∷ 0xAF ∷ []

-- a row stands for a write: its register, and the bits of its byte that hold or mute. Plain ones have none of these
abbrev pub plain : List ℕ → List (ℕ × ℕ)
plain = map (λ a. (a, 0))

-- "AVI hold up, its registers, hold down; audio likewise"; "a hold write to 0x4A has the other named hold 0"
abbrev pub avi_rows : List (ℕ × ℕ)
avi_rows = (0x4A, 0x40) ∷ plain (from 0x52 16) ++ (0x4A, 0) ∷ []

abbrev pub audio_rows : List (ℕ × ℕ)
audio_rows = (0x4A, 0x20) ∷ plain (from 0x70 13) ++ (0x4A, 0) ∷ []

-- "Order: mute; Table 14 registers; coefficient hold up, 0x18 to 0x2F with the hold kept up, hold down; AVI ..; audio ..; the other named
-- registers, those in no other step; open. Within a step addresses rise. If the audio hold is up at the start, audio goes before AVI."
abbrev pub list_rows : Bool → List (ℕ × ℕ)
list_rows audio_first =
    (0x4B, 0x40) ∷ plain table14 ++ (0x1A, 0x20) ∷ plain (from 0x18 2) ++ (0x1A, 0x20) ∷ plain (from 0x1B 21) ++ (0x1A, 0) ∷
    cond audio_first (audio_rows ++ avi_rows) (avi_rows ++ audio_rows) ++ plain others ++ (0x4B, 0x80) ∷ []

-- a register of a row, in either order
unfoldable pub is_written : ℕ → Bool
is_written a = among a (map (λ row. row.0) (list_rows false))

-- these are the "registers that hold a named bit, belong to the AVI or audio packet or stand in Table 14" (document 02, request 03)
abbrev pub Touched : Type 0
Touched =
    (a : ℕ) → a < 256
    → is_written a ≡ (not (eqb (named a) 0) || among a (from 0x52 16) || among a (from 0x70 13) || among a (map (λ f. f.address) table14_bits))
