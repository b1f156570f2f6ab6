-- What the calls answer, in the paper's numbers: the number of a refusal, 0 for none, and the bytes of the frame. `avi_told` and `audio_told`
-- (Answers) give them for each answer of the code.
-- The number is that of `refusal_number`: no two refusals have one (`refusals::told_apart`).
use Rattle.std.specs.Prelude.{ℕ, List}

-- an AVI InfoFrame: header, checksum, payload; or the number of a refusal
pub record Avi : Type 0 where
  pub refusal : ℕ
  pub bytes : List ℕ

-- an audio InfoFrame, likewise
pub record Audio : Type 0 where
  pub refusal : ℕ
  pub bytes : List ℕ
