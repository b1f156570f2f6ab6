-- Document 02, request 08: what a pipe answers, of any bytes that are lent as one, and however a request is cut. What is answered, `take_of` and
-- `end_pipe_of`, and what is left, `take_pipe` and `end_pipe`, follow the code (Found).
use Rattle.std.specs.Prelude.{◌≡◌, ◌≢◌, ◌↔◌, ◌⊎◌, List, [], ◌∷◌, ◌++◌, ℕ, ◌<◌, ◌≤◌, length, get_or, take}
use Rattle.refusals.specs.Tests.{answer}
use Rattle.request.specs.Sections.{longest}
use Rattle.pipe.specs.Numbered.{Piped}
use Rattle.pipe.specs.Final.{refusal_of, Final}
use Rattle.pipe.specs.Bytes.{pipe_length, count_in, answer_in, with_answer, so_far, fresh}
use Rattle.pipe.specs.Bytes.{refused, accepted, not_yet, no_pipe, answer_byte, said_by}
use Rattle.pipe.specs.Found.{take_of, take_pipe, end_pipe_of, end_pipe, TakesPart, EndsPipe}

-- "the answer .. for the joined bytes": the refusal, or accepted with the count of the bytes
abbrev pub answer_for : List ℕ → Piped
answer_for input = answer (refusal_of input) refused (accepted (length input))

-- bytes that are no pipe: of another length, or with a count above the longest request; and a pipe with no answer yet
abbrev pub NoPipe : List ℕ → Type 0
NoPipe pipe = (length pipe ≢ pipe_length) ⊎ (longest < count_in pipe)

pub record IsPipe (pipe : List ℕ) : Type 0 where
  pub long : length pipe ≡ pipe_length
  pub counted : count_in pipe ≤ longest

pub record OpenPipe (pipe : List ℕ) : Type 0 where
  pub one : IsPipe pipe
  pub unanswered : answer_in pipe ≡ 0

-- a pipe that has grown by a part, and what is behind it stays
pub record Grown (pipe part left : List ℕ) : Type 0 where
  pub still : OpenPipe left
  pub grown : so_far left ≡ so_far pipe ++ part
  pub behind : (i : ℕ) → length (so_far left) ≤ i → i < longest → get_or left i 0 ≡ get_or pipe i 0

-- any bytes, lent as a pipe, and any part
pub record AnyPipe (pipe part : List ℕ) : Type 0 where
  -- no pipe: 7, zeros beside it, and no byte is changed
  pub none : NoPipe pipe → TakesPart pipe part no_pipe pipe × EndsPipe pipe no_pipe pipe
  -- an answer stays, and no byte is changed
  pub stays : IsPipe pipe → answer_in pipe ≢ 0
      → let said : Piped = said_by (answer_in pipe) (count_in pipe) in TakesPart pipe part said pipe × EndsPipe pipe said pipe
  -- its number is its byte; 255 is an acceptance, with the count that stands there
  pub said : IsPipe pipe → answer_in pipe ≢ 0 → ((take_of pipe part).answered ≡ 1)
      × (answer_in pipe ≢ 255 → (take_of pipe part).refusal ≡ answer_in pipe)
      × (answer_in pipe ≡ 255 → ((take_of pipe part).refusal ≡ 0) × ((take_of pipe part).count ≡ count_in pipe))
  -- "A refusal that no later byte can change is given at once", and its byte is the only one that changes
  pub at_once : OpenPipe pipe → (n : ℕ) → Final (so_far pipe ++ part) n → TakesPart pipe part (refused n) (with_answer pipe n)
  -- and no other answer is
  pub goes_on : OpenPipe pipe → ((n : ℕ) → Final (so_far pipe ++ part) n → ⊥) → (take_of pipe part ≡ not_yet) × Grown pipe part (take_pipe pipe part)
  -- the end: the answer for the bytes so far, and its byte is the only one that changes
  pub ends : OpenPipe pipe → EndsPipe pipe (answer_for (so_far pipe)) (with_answer pipe (answer_byte (refusal_of (so_far pipe))))
  -- no bytes are left out; and a count is never above the longest request
  pub either : IsPipe pipe ⊎ NoPipe pipe
  pub within : ((take_of pipe part).count ≤ longest) × ((end_pipe_of pipe).count ≤ longest)
  -- so beside a refusal stands a count of zero, and every byte is as it was, but for the answer's
  pub kept : (take_of pipe part).refusal ≢ 0 → ((take_of pipe part).count ≡ 0) × (take_pipe pipe part ≡ with_answer pipe (answer_in (take_pipe pipe part)))
  pub kept_at_end : (end_pipe_of pipe).refusal ≢ 0 → ((end_pipe_of pipe).count ≡ 0) × (end_pipe pipe ≡ with_answer pipe (answer_in (end_pipe pipe)))

-- "the joined bytes"
abbrev pub joined : List (List ℕ) → List ℕ
joined [] = []
joined (part ∷ parts) = part ++ joined parts

-- a pipe that has taken some parts, and a fresh one that has
abbrev pub fed : List ℕ → List (List ℕ) → List ℕ
fed pipe [] = pipe
fed pipe (part ∷ parts) = fed (take_pipe pipe part) parts

abbrev pub after_parts : List (List ℕ) → List ℕ
after_parts parts = fed fresh parts

-- "in parts, none too short, the empty part included": any parts, one after another
pub record HoweverCut (parts : List (List ℕ)) : Type 0 where
  -- "However the request is cut, the answer must equal that for the joined bytes": at the end, its number, and the byte that remembers it
  pub at_end : end_pipe_of (after_parts parts) ≡ answer_for (joined parts)
  pub number : ((end_pipe_of (after_parts parts)).refusal ≡ refusal_of (joined parts)) × ((end_pipe_of (after_parts parts)).answered ≡ 1)
  pub byte : (refusal_of (joined parts) ≢ 0 → answer_in (end_pipe (after_parts parts)) ≡ refusal_of (joined parts))
      × (refusal_of (joined parts) ≡ 0 → answer_in (end_pipe (after_parts parts)) ≡ 255)
  -- an accepted request stands at the pipe's front
  pub front : refusal_of (joined parts) ≡ 0 → take (length (joined parts)) (end_pipe (after_parts parts)) ≡ joined parts
  -- "end-of-input is said once, by the host": before that one more part, the empty one too, is answered exactly if no later byte can change the
  -- number, with that number, which is 2 or 3; and else not
  pub at_once : (part : List ℕ) (n : ℕ) → (take_of (after_parts parts) part ≡ refused n) ↔ Final (joined parts ++ part) n
  pub given : (part : List ℕ)
      → (take_of (after_parts parts) part ≡ not_yet) ⊎ (take_of (after_parts parts) part ≡ refused 2) ⊎ (take_of (after_parts parts) part ≡ refused 3)
  pub goes_on : (part : List ℕ) → (take_of (after_parts parts) part ≡ not_yet) ↔ ((n : ℕ) → Final (joined parts ++ part) n → ⊥)
  -- "Parts after an answer or the end are ignored", and so is an end that is said twice
  pub answered : (part : List ℕ) (n : ℕ) → take_of (after_parts parts) part ≡ refused n
      → (later : List (List ℕ)) → fed (take_pipe (after_parts parts) part) later ≡ take_pipe (after_parts parts) part
  pub ended : (later : List (List ℕ)) → fed (end_pipe (after_parts parts)) later ≡ end_pipe (after_parts parts)
  pub again : (part : List ℕ) → TakesPart (end_pipe (after_parts parts)) part (answer_for (joined parts)) (end_pipe (after_parts parts))
  pub twice : EndsPipe (end_pipe (after_parts parts)) (answer_for (joined parts)) (end_pipe (after_parts parts))
