-- Document 02, request 09: which writes the list leaves out of the full one, and how many are left.
use Rattle.std.specs.Prelude.{◌≡◌, ◌↔◌, ◌≢◌, Bool, false, not, ◌&&◌, List, [], ◌∷◌, ℕ, ◌+◌, ◌<◌, ◌≤◌, eqb, length, get_or}
use Rattle.lists.specs.Among.{among}
use Rattle.lists.specs.Those.{those}
use Rattle.bits.specs.Merge.{bit}
use Rattle.registers.specs.Classes.{read_only}
use Rattle.chip.specs.Machine.{Write}
use Rattle.writes.specs.Rows.{from}
use Rattle.writes.specs.List.{full_list, the_three, stays, write_list, finished_image}
use Rattle.writes.specs.Order.{addresses}

-- "its register's byte in the image already equals the wanted one, read-only bits aside"
abbrev pub Equals : List ℕ → Write → Type 0
Equals image w = (j : ℕ) → j < 8 → bit j (read_only w.address) ≡ 0 → bit j (get_or image w.address 0) ≡ bit j w.value

-- a write that is left out
pub record LeftOut (image : List ℕ) (w : Write) : Type 0 where
  pub equals : Equals image w
  -- "All writes to the mute register, 0x4A and 0x1A stay."
  pub not_mute : w.address ≢ 0x4B
  pub not_packets : w.address ≢ 0x4A
  pub not_coefficients : w.address ≢ 0x1A

-- a write to one of those three
abbrev pub to_three : Write → Bool
to_three w = among w.address the_three

-- a register "other than those three" that differs between the old image and the target (which has the image's read-only bits)
abbrev pub differs : List ℕ → List ℕ → ℕ → Bool
differs old target a = not (among a the_three) && not (eqb (get_or target a 0) (get_or old a 0))

-- "the number of differing registers other than those three", over old image and target
abbrev pub differing : List ℕ → List ℕ → ℕ
differing old target = length (those (differs old target) (from 0 256))

pub record Fewer (want : ℕ → ℕ) (image : List ℕ) : Type 0 where
  -- "The plan leaves out a write exactly if ..": of any write, where the image has a byte
  pub exactly : (w : Write) → get_or image w.address 0 < 256 → (stays image w ≡ false) ↔ LeftOut image w
  -- the list is the full one without the writes that are left out, in its order
  pub list : write_list want image ≡ those (stays image) (full_list want image)
  -- "All writes to the mute register, 0x4A and 0x1A stay": they are these nine
  pub three : those to_three (write_list want image) ≡ those to_three (full_list want image)
  pub nine : addresses (those to_three (write_list want image)) ≡ 0x4B ∷ 0x1A ∷ 0x1A ∷ 0x1A ∷ 0x4A ∷ 0x4A ∷ 0x4A ∷ 0x4A ∷ 0x4B ∷ []
  -- "must equal the number of differing registers other than those three, plus the writes to those three"
  pub count : length (write_list want image) ≡ differing image (finished_image want image) + length (those to_three (write_list want image))
  -- "and the bound of 128 stays"
  pub bound : length (write_list want image) ≤ 128
