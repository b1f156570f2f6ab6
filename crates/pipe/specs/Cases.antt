-- Marked cases of request 08, in bare numbers.
use Rattle.std.specs.Prelude.{◌≡◌, List, [], ◌∷◌, ◌++◌, map, ℕ, take, drop, replicate, set}
use Rattle.pipe.specs.Numbered.{Piped}
use Rattle.pipe.specs.Final.{refusal_of}
use Rattle.pipe.specs.Bytes.{pipe_length, fresh}
use Rattle.pipe.specs.Found.{take_of, take_pipe, end_pipe_of, end_pipe}

-- document 01's example, on today's board
abbrev pub pipe_example : List ℕ
pipe_example = 0x00 ∷ 0x07 ∷ 0x10 ∷ 0x00 ∷ 0x00 ∷ 0x01 ∷ 0x00 ∷ 0x00 ∷ 0x00 ∷ 0x03 ∷ 0x02 ∷ 0x02 ∷ 0x01 ∷ 0x00 ∷ []

-- whole requests that are refused 4, 5, 6, 17, 20 and 9: VIC 0; range 2; DVI with audio; VIC 16 in 36 bits, twice; VIC 2 with eight channels at
-- 192 kHz; VIC 4 in family 1 with coherent sound at 32 kHz
abbrev pub bad : List (List ℕ)
bad =
    set pipe_example 2 0 ∷ set pipe_example 6 2 ∷ set pipe_example 5 0 ∷ set pipe_example 7 0x12 ∷ set (set (set pipe_example 2 2) 10 6) 11 8 ∷
    set (set (set pipe_example 2 4) 3 1) 10 0 ∷ []

-- an answer's three numbers: the refusal, whether it is answered, the count
abbrev pub numbers : Piped → List ℕ
numbers p = p.refusal ∷ p.answered ∷ p.count ∷ []

-- what each part is answered, and the end, and the pipe that is left
abbrev pub run_parts : List ℕ → List (List ℕ) → List (List ℕ)
run_parts pipe [] = numbers (end_pipe_of pipe) ∷ end_pipe pipe ∷ []
run_parts pipe (part ∷ parts) = numbers (take_of pipe part) ∷ run_parts (take_pipe pipe part) parts

-- a pipe by its bytes: those at the front, zeros behind them to byte 50, the count, the answer
abbrev pub holding : List ℕ → ℕ → ℕ → List ℕ
holding front count byte = take 51 (front ++ replicate 51 0) ++ (count ∷ byte ∷ [])

-- of requests of fourteen bytes and their numbers: not yet, the number, and the pipe that remembers it
abbrev pub remembered : List (List ℕ) → List ℕ → List (List (List ℕ))
remembered [] ns = []
remembered (request ∷ requests) [] = []
remembered (request ∷ requests) (n ∷ ns) =
    ((0 ∷ 0 ∷ 0 ∷ []) ∷ (n ∷ 1 ∷ 0 ∷ []) ∷ holding request 14 n ∷ []) ∷ remembered requests ns

-- what a part and the end are answered by any bytes lent as a pipe, and what they leave
abbrev pub pipe_outcome : List ℕ → List ℕ → List (List ℕ)
pipe_outcome pipe part = numbers (take_of pipe part) ∷ take_pipe pipe part ∷ numbers (end_pipe_of pipe) ∷ end_pipe pipe ∷ []

pub record PipeCases : Type 0 where
  pub length : pipe_length ≡ 53
  pub zeros : fresh ≡ holding [] 0 0
  -- the example in one part, and in six, some of them empty
  pub whole : run_parts fresh (pipe_example ∷ []) ≡ (0 ∷ 0 ∷ 0 ∷ []) ∷ (0 ∷ 1 ∷ 14 ∷ []) ∷ holding pipe_example 14 255 ∷ []
  pub parts : run_parts fresh ([] ∷ take 4 pipe_example ∷ [] ∷ take 7 (drop 4 pipe_example) ∷ drop 11 pipe_example ∷ [] ∷ [])
      ≡ (0 ∷ 0 ∷ 0 ∷ []) ∷ (0 ∷ 0 ∷ 0 ∷ []) ∷ (0 ∷ 0 ∷ 0 ∷ []) ∷ (0 ∷ 0 ∷ 0 ∷ []) ∷ (0 ∷ 0 ∷ 0 ∷ []) ∷ (0 ∷ 0 ∷ 0 ∷ []) ∷
      (0 ∷ 1 ∷ 14 ∷ []) ∷ holding pipe_example 14 255 ∷ []
  -- "refusal 2 as soon as its count is read": the first count, and the third; what follows is ignored
  pub two : run_parts fresh ((0x05 ∷ []) ∷ pipe_example ∷ []) ≡ (2 ∷ 1 ∷ 0 ∷ []) ∷ (2 ∷ 1 ∷ 0 ∷ []) ∷ (2 ∷ 1 ∷ 0 ∷ []) ∷ holding [] 0 2 ∷ []
  pub two_later : run_parts fresh (take 9 pipe_example ∷ (0x02 ∷ []) ∷ [])
      ≡ (0 ∷ 0 ∷ 0 ∷ []) ∷ (2 ∷ 1 ∷ 0 ∷ []) ∷ (2 ∷ 1 ∷ 0 ∷ []) ∷ holding (take 9 pipe_example) 9 2 ∷ []
  -- "refusal 3 at the first byte too many"; and after the longest request, with a long part
  pub three : run_parts fresh (pipe_example ∷ (0x00 ∷ []) ∷ (0x00 ∷ []) ∷ [])
      ≡ (0 ∷ 0 ∷ 0 ∷ []) ∷ (3 ∷ 1 ∷ 0 ∷ []) ∷ (3 ∷ 1 ∷ 0 ∷ []) ∷ (3 ∷ 1 ∷ 0 ∷ []) ∷ holding pipe_example 14 3 ∷ []
  pub three_longer : run_parts fresh (((0x0C ∷ replicate 12 0) ++ take 12 (drop 1 pipe_example) ++ (0x19 ∷ replicate 26 0)) ∷ [])
      ≡ (3 ∷ 1 ∷ 0 ∷ []) ∷ (3 ∷ 1 ∷ 0 ∷ []) ∷ holding [] 0 3 ∷ []
  -- every other answer comes at the end: with nothing read, and of each whole request, which one byte more makes 3
  pub nothing : run_parts fresh [] ≡ (1 ∷ 1 ∷ 0 ∷ []) ∷ holding [] 0 1 ∷ []
  pub mended : (refusal_of (take 13 pipe_example) ≡ 1) × (refusal_of pipe_example ≡ 0)
  pub others : map (λ (request : List ℕ). refusal_of request ∷ refusal_of (request ++ (0x00 ∷ [])) ∷ [])
      (pipe_example ∷ bad)
      ≡ (0 ∷ 3 ∷ []) ∷ (4 ∷ 3 ∷ []) ∷ (5 ∷ 3 ∷ []) ∷ (6 ∷ 3 ∷ []) ∷ (17 ∷ 3 ∷ []) ∷ (20 ∷ 3 ∷ []) ∷ (9 ∷ 3 ∷ []) ∷ []
  -- and what the end says of each, with the byte that remembers it: 1 inside a section, and the others
  pub inside : run_parts fresh (take 13 pipe_example ∷ []) ≡ (0 ∷ 0 ∷ 0 ∷ []) ∷ (1 ∷ 1 ∷ 0 ∷ []) ∷ holding (take 13 pipe_example) 13 1 ∷ []
  pub at_end : map (λ (request : List ℕ). run_parts fresh (request ∷ [])) bad ≡ remembered bad (4 ∷ 5 ∷ 6 ∷ 17 ∷ 20 ∷ 9 ∷ [])
  -- bytes that are no pipe: 52, 54 and none, and a count of 52, beside an answer too
  pub short : pipe_outcome (replicate 52 0) pipe_example ≡ (7 ∷ 0 ∷ 0 ∷ []) ∷ replicate 52 0 ∷ (7 ∷ 0 ∷ 0 ∷ []) ∷ replicate 52 0 ∷ []
  pub long : pipe_outcome (replicate 54 0) pipe_example ≡ (7 ∷ 0 ∷ 0 ∷ []) ∷ replicate 54 0 ∷ (7 ∷ 0 ∷ 0 ∷ []) ∷ replicate 54 0 ∷ []
  pub empty : pipe_outcome [] pipe_example ≡ (7 ∷ 0 ∷ 0 ∷ []) ∷ [] ∷ (7 ∷ 0 ∷ 0 ∷ []) ∷ [] ∷ []
  pub above : pipe_outcome (holding pipe_example 52 0) (0x00 ∷ []) ≡ (7 ∷ 0 ∷ 0 ∷ []) ∷ holding pipe_example 52 0 ∷ (7 ∷ 0 ∷ 0 ∷ []) ∷ holding pipe_example 52 0 ∷ []
  pub above_answered : pipe_outcome (holding pipe_example 52 255) (0x00 ∷ [])
      ≡ (7 ∷ 0 ∷ 0 ∷ []) ∷ holding pipe_example 52 255 ∷ (7 ∷ 0 ∷ 0 ∷ []) ∷ holding pipe_example 52 255 ∷ []
  -- what another hand wrote is taken as it stands: answers, a count, and bytes behind it
  pub any_number : pipe_outcome (holding pipe_example 14 77) pipe_example
      ≡ (77 ∷ 1 ∷ 0 ∷ []) ∷ holding pipe_example 14 77 ∷ (77 ∷ 1 ∷ 0 ∷ []) ∷ holding pipe_example 14 77 ∷ []
  pub next_to_accepted : pipe_outcome (holding pipe_example 14 254) pipe_example
      ≡ (254 ∷ 1 ∷ 0 ∷ []) ∷ holding pipe_example 14 254 ∷ (254 ∷ 1 ∷ 0 ∷ []) ∷ holding pipe_example 14 254 ∷ []
  pub any_count : pipe_outcome (holding [] 51 255) pipe_example ≡ (0 ∷ 1 ∷ 51 ∷ []) ∷ holding [] 51 255 ∷ (0 ∷ 1 ∷ 51 ∷ []) ∷ holding [] 51 255 ∷ []
  pub behind : pipe_outcome (replicate 51 0xEE ++ (0 ∷ 0 ∷ [])) (take 3 pipe_example)
      ≡ (0 ∷ 0 ∷ 0 ∷ []) ∷ ((0x00 ∷ 0x07 ∷ 0x10 ∷ replicate 48 0xEE) ++ (3 ∷ 0 ∷ [])) ∷ (1 ∷ 1 ∷ 0 ∷ []) ∷ (replicate 51 0xEE ++ (0 ∷ 1 ∷ [])) ∷ []
  -- the request so far has a count that is not allowed, which no call leaves: an empty part is answered
  pub forged : pipe_outcome (holding (0x05 ∷ []) 1 0) []
      ≡ (2 ∷ 1 ∷ 0 ∷ []) ∷ holding (0x05 ∷ []) 1 2 ∷ (2 ∷ 1 ∷ 0 ∷ []) ∷ holding (0x05 ∷ []) 1 2 ∷ []
