-- Document 02, request 03: the line that is printed of a verdict on a vendor's list, as bytes. `Verdicts` has it in plain words.
use Rattle.std.specs.Prelude.{◌≡◌, ◌≢◌, cond, List, ◌++◌, ℕ, eqb}
use Rattle.refusals.specs.Rows.{number, bad_pair}
use Rattle.line.specs.Words.{ascii, decimal, refused_text, LeavesText}

-- "15 with the place of the first bad pair, counted from 0"
unfoldable pub placed_text : ℕ → ℕ → List ℕ
placed_text refusal place = (ascii "refused " ++ decimal refusal) ++ (ascii " at " ++ decimal place) ++ ascii "\n"

-- `accepted`, `refused 15 at 12`, or `refused 7`; and the line's end
abbrev pub verdict_text : ℕ → ℕ → List ℕ
verdict_text refusal place =
    cond (eqb refusal 0) (ascii "accepted\n") (cond (eqb refusal (number bad_pair)) (placed_text refusal place) (refused_text refusal))

-- what the call that prints it promises
abbrev pub PrintsVerdict : ℕ → ℕ → ℕ → List ℕ → Type 0
PrintsVerdict refusal place count left = LeavesText (verdict_text refusal place) count left

-- the lines in plain words: a place stands with 15 alone, and of 512 pairs it is 0 to 511
pub record Verdicts (place : ℕ) : Type 0 where
  pub accepted : verdict_text 0 place ≡ ascii "accepted\n"
  pub image_length : verdict_text 7 place ≡ ascii "refused 7\n"
  pub holds_up : verdict_text 8 place ≡ ascii "refused 8\n"
  pub list_length : verdict_text 14 place ≡ ascii "refused 14\n"
  pub bad_pair : verdict_text 15 place ≡ ascii "refused 15 at " ++ decimal place ++ ascii "\n"
  pub bad_end : verdict_text 16 place ≡ ascii "refused 16\n"
  pub others : (refusal : ℕ) → refusal ≢ 0 → refusal ≢ 15 → verdict_text refusal place ≡ ascii "refused " ++ decimal refusal ++ ascii "\n"
  pub first_pair : verdict_text 15 0 ≡ ascii "refused 15 at 0\n"
  pub last_pair : verdict_text 15 511 ≡ ascii "refused 15 at 511\n"
