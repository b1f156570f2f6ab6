-- Document 02, requests 03 and 04: what the program that reads a vendor's list takes, and what it answers. `Inputs` says it part by part.
use Rattle.std.specs.Prelude.{◌≡◌, cond, List, ◌∷◌, ◌++◌, ℕ, ◌+◌, ◌*◌, ◌<◌, ◌≤◌, ltb, length, get_or, take, drop}
use Rattle.chip.specs.declared.Chip.{Chip}
use Rattle.chip.specs.Write.{lent_as}
use Rattle.views.specs.Entry.{marked}
use Rattle.vendor.specs.Numbered.{Verdict}
use Rattle.vendor.specs.Vendor.{most_pairs}
use Rattle.vendor.specs.Found.{vet_of}
use Rattle.line.specs.Verdict.{PrintsVerdict}

-- the registers, the packet buffer, the coefficient buffer and the mark, a byte: 0 for none, anything else for one that waits
abbrev pub ahead : ℕ
ahead = 256 + 32 + 24 + 1

abbrev pub state_in : List ℕ → Chip
state_in input = lent_as (take 256 input) (take 32 (drop 256 input)) (take 24 (drop 288 input)) (marked (get_or input 312 0))

-- and then the list; an input that ends before its list is refused by 7
abbrev pub verdict_of : List ℕ → Verdict
verdict_of input = cond (ltb (length input) ahead) (record { refusal = 7; place = 0 }) (vet_of (state_in input) (drop ahead input))

-- the longest input: "At most 512 pairs."
abbrev pub longest_input : ℕ
longest_input = ahead + 2 * most_pairs

-- what is printed: the line of the bytes that were read, which stand at the front of the room
pub record PrintsInput (room : List ℕ) (count : ℕ) (line : List ℕ) : Type 0 where
  pub read : ℕ
  pub within : read ≤ length room
  pub prints : let v : Verdict = verdict_of (take read room) in PrintsVerdict v.refusal v.place count line

pub record Inputs (input : List ℕ) : Type 0 where
  pub parts : (image packet coefficients : List ℕ) (mark : ℕ) (list : List ℕ)
      → length image ≡ 256 → length packet ≡ 32 → length coefficients ≡ 24
      → input ≡ image ++ packet ++ coefficients ++ mark ∷ list
      → verdict_of input ≡ vet_of (lent_as image packet coefficients (marked mark)) list
  -- "image not of 256 bytes; in the machine also packet buffer not of 32, coefficient buffer not of 24", and a mark that is not there
  pub short : length input < 313 → verdict_of input ≡ record { refusal = 7; place = 0 }
  -- one byte more than the longest decides
  pub enough : (n : ℕ) → longest_input < n → verdict_of (take n input) ≡ verdict_of input
