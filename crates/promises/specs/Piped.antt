-- Document 02, request 08: demand 1 of a pipe; and what an answer that a pipe gives is to planning, and to the small program's line.
use Rattle.std.specs.Prelude.{◌≡◌, ◌≢◌, true, List, [], ◌∷◌, ◌++◌, ℕ, take}
use Rattle.lists.specs.Among.{among}
use Rattle.matrix.specs.Matrix.{Bytes}
use Rattle.pipe.specs.Final.{refusal_of}
use Rattle.pipe.specs.Bytes.{answer_in, with_answer, refused}
use Rattle.pipe.specs.Found.{take_of, end_pipe_of, end_pipe}
use Rattle.pipe.specs.Pipe.{AnyPipe, joined, after_parts}
use Rattle.line.specs.Words.{line_text, answer_text}
use Rattle.plan.specs.Plan.{plan_of}
use Rattle.station.specs.declared.PipedOut.{PipedOut}
use Rattle.station.specs.Pipe.{StationPipeTake, StationPipeEnd}

-- demand 1: what any bytes make of a part and of the end (`kept`, `kept_at_end`); and of the exported calls, beside a refusal a count of zero, every
-- byte as it was but for the answer's, and that one too where there is no answer
pub record PipeRefusals (pipe part : List ℕ) : Type 0 where
  pub any : AnyPipe pipe part
  pub station_pipe_take : (left : List ℕ) (out : PipedOut) → StationPipeTake pipe part out left
      → out.refusal ≢ 0 → (out.count ≡ 0) × (left ≡ with_answer pipe (answer_in left)) × (out.answered ≡ 0 → left ≡ pipe)
  pub station_pipe_end : (left : List ℕ) (out : PipedOut) → StationPipeEnd pipe out left
      → out.refusal ≢ 0 → (out.count ≡ 0) × (left ≡ with_answer pipe (answer_in left)) × (out.answered ≡ 0 → left ≡ pipe)

pub record ThroughPipe (parts : List (List ℕ)) : Type 0 where
  -- a request that is accepted, taken from the pipe's front, is planned as the joined bytes are; no row but 7, 8 and 10 can refuse it then,
  -- those of the image and of the buffer
  pub front : refusal_of (joined parts) ≡ 0 → take (end_pipe_of (after_parts parts)).count (end_pipe (after_parts parts)) ≡ joined parts
  pub planned : refusal_of (joined parts) ≡ 0
      → (image buffer : List ℕ) → among (plan_of (joined parts) image buffer).refusal (0 ∷ 7 ∷ 8 ∷ 10 ∷ []) ≡ true
  -- and what the pipe refuses is never planned, whatever image and buffer are lent
  pub unplanned : refusal_of (joined parts) ≢ 0 → (image buffer : List ℕ) → (plan_of (joined parts) image buffer).refusal ≢ 0
  -- the small program: the line of the joined bytes; and where a part is answered, at once the line that they have whatever follows
  pub line : answer_text (end_pipe_of (after_parts parts)).refusal (take (end_pipe_of (after_parts parts)).count (end_pipe (after_parts parts))) ≡ line_text (joined parts)
  pub line_at_once : (part : List ℕ) (n : ℕ) → take_of (after_parts parts) part ≡ refused n
      → (later : List ℕ) → Bytes later → answer_text n [] ≡ line_text ((joined parts ++ part) ++ later)
