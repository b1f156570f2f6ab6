-- How the code answers. `AnyPipe` and `HoweverCut` (Pipe) tie it to document 02's words.
use Rattle.std.specs.Prelude.{◌≡◌, Bool, cond, ◌&&◌, ◌||◌, List, ◌++◌, ℕ, eqb, leb, length, set}
use Rattle.lists.specs.Over.{over}
use Rattle.refusals.specs.Rows.{number, count_not_allowed, bytes_after}
use Rattle.refusals.specs.Tests.{answer}
use Rattle.request.specs.Sections.{longest}
use Rattle.pipe.specs.Numbered.{Piped}
use Rattle.pipe.specs.Final.{refusal_of}
use Rattle.pipe.specs.Bytes.{pipe_length, count_in, answer_in, with_answer, so_far, refused, not_yet, no_pipe, answer_byte, said_by}

abbrev pub is_pipe : List ℕ → Bool
is_pipe pipe = eqb (length pipe) pipe_length && leb (count_in pipe) longest

abbrev pub is_open : List ℕ → Bool
is_open pipe = is_pipe pipe && eqb (answer_in pipe) 0

-- what is said where it is not open: the answer that is there, or that it is no pipe
abbrev pub answer_there : List ℕ → Piped
answer_there pipe = cond (is_pipe pipe) (said_by (answer_in pipe) (count_in pipe)) no_pipe

-- 2 and 3, else 0
abbrev pub early : ℕ → ℕ
early n = cond (eqb n (number count_not_allowed) || eqb n (number bytes_after)) n 0

-- a part: what is given at once, and what is left in the pipe
abbrev pub given_at : List ℕ → List ℕ → ℕ
given_at pipe part = early (refusal_of (so_far pipe ++ part))

abbrev pub kept : List ℕ → List ℕ → List ℕ
kept pipe part = set (over (so_far pipe ++ part) pipe) longest (length (so_far pipe ++ part))

unfoldable pub take_of : List ℕ → List ℕ → Piped
take_of pipe part = cond (is_open pipe) (answer (given_at pipe part) refused not_yet) (answer_there pipe)

unfoldable pub take_pipe : List ℕ → List ℕ → List ℕ
take_pipe pipe part = cond (is_open pipe) (answer (given_at pipe part) (with_answer pipe) (kept pipe part)) pipe

-- the end: the answer's byte, what it says, and what is left in the pipe
abbrev pub end_byte : List ℕ → ℕ
end_byte pipe = answer_byte (refusal_of (so_far pipe))

unfoldable pub end_pipe_of : List ℕ → Piped
end_pipe_of pipe = cond (is_open pipe) (said_by (end_byte pipe) (count_in pipe)) (answer_there pipe)

unfoldable pub end_pipe : List ℕ → List ℕ
end_pipe pipe = cond (is_open pipe) (with_answer pipe (end_byte pipe)) pipe

-- what the two calls promise
abbrev pub TakesPart : List ℕ → List ℕ → Piped → List ℕ → Type 0
TakesPart pipe part out left = (out ≡ take_of pipe part) × (left ≡ take_pipe pipe part)

abbrev pub EndsPipe : List ℕ → Piped → List ℕ → Type 0
EndsPipe pipe out left = (out ≡ end_pipe_of pipe) × (left ≡ end_pipe pipe)
