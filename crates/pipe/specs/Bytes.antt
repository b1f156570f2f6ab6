-- A pipe: what its bytes are, and what is said of one. Document 02, request 08, asks for the answers; the bytes are ours (docs/DECISIONS.md).
use Rattle.std.specs.Prelude.{cond, List, ℕ, suc, ◌+◌, eqb, get_or, take, set, replicate}
use Rattle.refusals.specs.Rows.{number, image_length}
use Rattle.refusals.specs.Tests.{answer}
use Rattle.request.specs.Sections.{longest}
use Rattle.pipe.specs.Numbered.{Piped}

-- room for the longest request, and then two bytes: the count of the bytes so far, and the answer
abbrev pub pipe_length : ℕ
pipe_length = longest + 2

abbrev pub count_in : List ℕ → ℕ
count_in pipe = get_or pipe longest 0

abbrev pub answer_in : List ℕ → ℕ
answer_in pipe = get_or pipe (suc longest) 0

abbrev pub with_answer : List ℕ → ℕ → List ℕ
with_answer pipe byte = set pipe (suc longest) byte

-- the bytes so far; and a fresh pipe, which has none
abbrev pub so_far : List ℕ → List ℕ
so_far pipe = take (count_in pipe) pipe

abbrev pub fresh : List ℕ
fresh = replicate pipe_length 0

-- what a call says: a refusal, an acceptance with its count, no answer yet; and that these bytes are no pipe
abbrev pub refused : ℕ → Piped
refused n = record { refusal = n; answered = 1; count = 0 }

abbrev pub accepted : ℕ → Piped
accepted count = record { refusal = 0; answered = 1; count = count }

abbrev pub not_yet : Piped
not_yet = record { refusal = 0; answered = 0; count = 0 }

abbrev pub no_pipe : Piped
no_pipe = record { refusal = number image_length; answered = 0; count = 0 }

-- the answer's byte: 0 for none yet, 255 for accepted, else the refusal; and what it says
abbrev pub answer_byte : ℕ → ℕ
answer_byte n = answer n (λ m. m) 255

abbrev pub said_by : ℕ → ℕ → Piped
said_by byte count = cond (eqb byte 255) (accepted count) (refused byte)
