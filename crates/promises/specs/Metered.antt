-- Document 02, request 07: the bytes of a meter's matrix are a request's matrix section, and a matrix for the preview.
use Rattle.std.specs.Prelude.{◌≡◌, List, [], ℕ, ◌≤◌, take, Float}
use Rattle.matrix.specs.Matrix.{matrix_of}
use Rattle.matrix.specs.Preview.{preview_of}
use Rattle.meter.specs.Found.{meter_of, meter_buffer}
use Rattle.request.specs.declared.Request.{Request}
use Rattle.request.specs.Sections.{in_turn}
use Rattle.request.specs.Bytes.{laid, bodies_of, as_bytes}
use Rattle.request.specs.Read.{read_of}
use Rattle.request.specs.ThereAndBack.{Shaped}

-- a request with a matrix section of these bytes, in place of its own or where it had none: its bytes, and what they say
abbrev pub bytes_with : List ℕ → Request → List ℕ
bytes_with body r = laid (in_turn (record { wiring = (bodies_of r).wiring; video = (bodies_of r).video; audio = (bodies_of r).audio; matrix = body })) []

abbrev pub asked_with : List ℕ → Request → Request
asked_with body r = record { wiring = r.wiring; video = r.video; sound = r.sound; matrix = matrix_of body }

pub record FromMeter (numbers : List Float) (buffer : List ℕ) : Type 0 where
  -- in any request that is accepted, with a matrix or without, they are accepted, and are read as the matrix that they say
  pub request : (meter_of numbers buffer).refusal ≡ 0 → let body : List ℕ = take 25 (meter_buffer numbers buffer) in
      (r : Request) → Shaped r.matrix → (read_of (as_bytes r)).refusal ≡ 0
      → read_of (bytes_with body r) ≡ record { refusal = 0; request = asked_with body r }
  -- the preview takes them
  pub preview : (meter_of numbers buffer).refusal ≡ 0 → (a b c : ℕ) → a ≤ 4095 → b ≤ 4095 → c ≤ 4095
      → (preview_of (take 25 (meter_buffer numbers buffer)) a b c).refusal ≡ 0
