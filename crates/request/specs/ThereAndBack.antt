-- Document 01, "The request": a request and its bytes, there and back.
use Rattle.std.specs.Prelude.{◌≡◌, ◌⊎◌, List, ℕ, ◌<◌, length, get_or}
use Rattle.video.specs.Video as video
use Rattle.matrix.specs.declared.Matrix.{Matrix}
use Rattle.matrix.specs.Matrix.{no_matrix, Bytes}
use Rattle.request.specs.declared.Request.{Request}
use Rattle.request.specs.Read.{read_of}
use Rattle.request.specs.Bytes.{as_bytes, on_video, answered_as, as_read_back}

-- no matrix, or twelve fields of 13 bits
pub record Filled (m : Matrix) : Type 0 where
  pub on : m.on ≡ 1
  pub mode : m.mode < 4
  pub twelve : length m.coefficients ≡ 12
  pub small : (i : ℕ) → get_or m.coefficients i 0 < 8192

abbrev pub Shaped : Matrix → Type 0
Shaped m = (m ≡ no_matrix) ⊎ Filled m

pub record ThereAndBack : Type 0 where
  -- the bytes of a request, where no row refuses them, are read as that request
  pub there : (r : Request) → Shaped r.matrix → (read_of (as_bytes r)).refusal ≡ 0 → (read_of (as_bytes r)).request ≡ r
  -- the bytes of the request that is read from an input are the input
  pub back : (input : List ℕ) → Bytes input → (read_of input).refusal ≡ 0 → as_bytes (read_of input).request ≡ input
  -- the bytes that are answered for an input are the input's, but for its family and its edition byte
  pub answered : (input : List ℕ) → Bytes input → (read_of input).refusal ≡ 0 → as_bytes (answered_as (read_of input).request) ≡ as_read_back input

-- a request with another edition byte
abbrev pub request_in_edition : ℕ → Request → Request
request_in_edition edition r = on_video (video.in_edition edition) r
