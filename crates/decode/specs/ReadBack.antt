-- A finished image reads back, as decoding proves it before demand 2 says it of the planning entry (`Demand2.read_back`).
use Rattle.std.specs.Prelude.{◌≡◌, List, ℕ, ◌<◌, ◌≤◌, length, get_or}
use Rattle.matrix.specs.Matrix.{Bytes}
use Rattle.request.specs.Sections.{longest}
use Rattle.request.specs.Read.{read_of, pair_for}
use Rattle.request.specs.Bytes.{answered_as, as_read_back}
use Rattle.plan.specs.Wanted.{wanted}
use Rattle.writes.specs.List.{finished}
use Rattle.decode.specs.Ends.{Ends}
use Rattle.decode.specs.Theorems.{Answered}

-- an accepted input, and an image as its list leaves it: each of the 256 registers is `finished`
pub record Ran (input before image : List ℕ) : Type 0 where
  pub bytes : Bytes input
  pub read : (read_of input).refusal ≡ 0
  pub paired : (pair_for (read_of input).request).refusal ≡ 0
  pub sized : length image ≡ 256
  pub registers : (a : ℕ) → a < 256 → get_or image a 0 ≡ finished (wanted (read_of input).request) before a

-- "the finished image reads back as the same request, but for the frame-rate family, which no register names", and for an E that asks for
-- nothing
pub record ReadBack (input before image : List ℕ) : Type 0 where
  pub ends : Ran input before image → Ends (answered_as (read_of input).request) image
  pub answered : Ran input before image → (buffer : List ℕ) → longest ≤ length buffer → Answered (as_read_back input) image buffer
