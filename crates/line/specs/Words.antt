-- Document 01, "What the station's library does": the line that the small program prints, as bytes. `Numeral` ties `decimal` to the number,
-- `MarkedCases` (promises) the text to the document's two lines.
use Rattle.std.specs.Prelude.{◌≡◌, cond, List, [], ◌∷◌, ◌++◌, map, ℕ, zero, suc, ◌+◌, ◌*◌, ◌/◌, ◌%◌, ◌<◌, eqb, ltb, length, get_or, drop, replicate}
use Prim.Native.Char.{code}
use Prim.Native.String.{String, [] as none, ◌∷◌ as ◌then◌}
use Rattle.std.proofs.lemmas.List.Edits.{sets}
use Rattle.line.specs.Numbered.{Line, Printed}
use Rattle.line.specs.Line.{line_of}
use Rattle.line.specs.declared.buffer.Text.{Text}

-- a text, letter by letter
abbrev pub ascii : String → List ℕ
ascii none = []
ascii (c then s) = code c ∷ ascii s

-- a digit, 0 to 15: "lower-case hex digits"
abbrev pub digit : ℕ → ℕ
digit n = get_or (ascii "0123456789abcdef") n 0

-- a number in decimal, with no zero before it; the first argument bounds the digits
unfoldable pub digits : ℕ → ℕ → List ℕ
digits zero n = []
digits (suc most) n = cond (ltb n 10) (digit n ∷ []) (digits most (n / 10) ++ (digit (n % 10) ∷ []))

abbrev pub decimal : ℕ → List ℕ
decimal n = digits (suc n) n

-- "checksums as two lower-case hex digits"
abbrev pub hex : ℕ → List ℕ
hex byte = digit (byte / 16) ∷ digit (byte % 16) ∷ []

-- `accepted vic 16 n 6144 cts 148500 avi .. audio ..`, or `refused 1`; and the line's end
unfoldable pub accepted_text : Line → List ℕ
accepted_text l =
    (ascii "accepted vic " ++ decimal l.vic) ++ (ascii " n " ++ decimal l.n) ++ (ascii " cts " ++ decimal l.cts)
    ++ (ascii " avi " ++ hex l.avi) ++ (ascii " audio " ++ hex l.audio) ++ ascii "\n"

unfoldable pub refused_text : ℕ → List ℕ
refused_text number = (ascii "refused " ++ decimal number) ++ ascii "\n"

abbrev pub text_of : Line → List ℕ
text_of l = cond (eqb l.refusal 0) (accepted_text l) (refused_text l.refusal)

-- how the code writes: some bytes are added to a line
pub record AddsText (before : Text) (bytes : List ℕ) (after : Text) : Type 0 where
  pub count : after.count ≡ before.count + length bytes
  pub stored : after.bytes ≡ sets before.bytes before.count bytes

-- the line of an input
abbrev pub line_text : List ℕ → List ℕ
line_text input = text_of (line_of input)

-- a line at the front of 80 bytes, the others 0, and its count
abbrev pub line_bytes : List ℕ → Printed
line_bytes text = record { bytes = text ++ drop (length text) (replicate 80 0); count = length text }

-- what a call that prints a text promises: the count, and what it leaves in the lent bytes
abbrev pub LeavesText : List ℕ → ℕ → List ℕ → Type 0
LeavesText text count left = (count ≡ (line_bytes text).count) × (left ≡ (line_bytes text).bytes)

-- the program's call
abbrev pub Prints : List ℕ → ℕ → List ℕ → Type 0
Prints input count left = LeavesText (line_text input) count left

-- of a request that came in parts (document 02, request 08): the line of its refusal, or that of the request
abbrev pub answer_text : ℕ → List ℕ → List ℕ
answer_text refusal request = cond (eqb refusal 0) (line_text request) (refused_text refusal)

abbrev pub PrintsAnswer : ℕ → List ℕ → ℕ → List ℕ → Type 0
PrintsAnswer refusal request count left = LeavesText (answer_text refusal request) count left

-- the number that decimal digits say, read from the left
abbrev pub said : ℕ → List ℕ → ℕ
said n [] = n
said n (d ∷ ds) = said (n * 10 + d) ds

-- `decimal` is the number's numeral: its digits, 0 to 9, say the number, and none but 0 begins with a 0
pub record Numeral (n : ℕ) : Type 0 where
  pub values : List ℕ
  pub written : decimal n ≡ map digit values
  pub each : (i : ℕ) → get_or values i 0 < 10
  pub read : said 0 values ≡ n
  pub some : 0 < length values
  pub plain : get_or values 0 0 ≡ 0 → n ≡ 0
