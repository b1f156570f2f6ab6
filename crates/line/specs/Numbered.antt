-- What the line says, in the paper's numbers: the number of a refusal, 0 for none, and what is printed of a request.
-- The number is that of `refusal_number`: no two refusals have one (`refusals::told_apart`).
use Rattle.std.specs.Prelude.{Result, List, ℕ}
use Rattle.refusals.specs.declared.Refusal.{Refusal}
use Rattle.refusals.specs.Numbered.{told}
use Rattle.line.specs.declared.Shown.{Shown}
use Rattle.line.specs.declared.buffer.Text.{Text}

-- "accepted" with five numbers, or "refused" with the first
pub record Line : Type 0 where
  pub refusal : ℕ
  pub vic : ℕ
  pub n : ℕ
  pub cts : ℕ
  pub avi : ℕ
  pub audio : ℕ

-- what is shown of a request
abbrev pub shown_line : Shown → Line
shown_line s = record { refusal = 0; vic = s.vic; n = s.n; cts = s.cts; avi = s.avi; audio = s.audio }

-- beside the number of a refusal stand zeros
abbrev pub line_told : Result Shown Refusal → Line
line_told = told shown_line (λ n. record { refusal = n; vic = 0; n = 0; cts = 0; avi = 0; audio = 0 })

-- a line at the front of its bytes, and its count
pub record Printed : Type 0 where
  pub bytes : List ℕ
  pub count : ℕ

abbrev pub text_told : Text → Printed
text_told text = record { bytes = text.bytes; count = text.count }
