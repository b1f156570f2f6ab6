-- How the program takes its input: in parts, one after another, until the empty one, which is the end, or an answer; and what it prints then.
-- `ThroughPipe.line` (promises) says that this is the line of the parts joined. Which bytes a part has, the operating system says.
use Rattle.std.specs.Prelude.{◌≡◌, Bool, false, not, ◌&&◌, List, [], ◌∷◌, ◌++◌, ℕ, eqb, length, take}
use Rattle.pipe.specs.Found.{take_of, take_pipe, end_pipe_of, end_pipe}
use Rattle.pipe.specs.Pipe.{after_parts}
use Rattle.line.specs.Words.{PrintsAnswer}

-- whether there is more to come after a part
abbrev pub goes_on : List ℕ → List ℕ → Bool
goes_on pipe part = not (eqb (length part) 0) && eqb (take_of pipe part).answered 0

-- a part goes into the pipe
abbrev pub DeskTurns : List ℕ → List ℕ → Bool → List ℕ → Type 0
DeskTurns pipe part more left = (more ≡ goes_on pipe part) × (left ≡ take_pipe pipe part)

-- some part does, whichever was read
pub record SomePart (pipe : List ℕ) (more : Bool) (left : List ℕ) : Type 0 where
  pub part : List ℕ
  pub turned : DeskTurns pipe part more left

-- some parts, the last of which is the first after which nothing is to come
pub record AllParts (left : List ℕ) : Type 0 where
  pub parts : List (List ℕ)
  pub last : List ℕ
  pub taken : left ≡ after_parts (parts ++ (last ∷ []))
  pub stopped : goes_on (after_parts parts) last ≡ false

-- what is printed of a pipe: the end is said, and then its answer told
abbrev pub PrintsPipe : List ℕ → ℕ → List ℕ → Type 0
PrintsPipe pipe count line = PrintsAnswer (end_pipe_of pipe).refusal (take (end_pipe_of pipe).count (end_pipe pipe)) count line
