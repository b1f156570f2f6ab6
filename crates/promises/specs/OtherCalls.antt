-- Demand 1, of the exported calls beside those on a request and on the machine: the preview, a colour meter's matrix, a pipe, a vendor's
-- list. When each row applies stands with the call: `PreviewRefusals`, `MeterRule`, `AnyPipe`, `Vetted`.
use Rattle.std.specs.Prelude.{◌≡◌, ◌≢◌, List, ℕ, Float}
use Rattle.matrix.specs.Matrix.{Bytes}
use Rattle.station.specs.declared.CountOut.{CountOut}
use Rattle.station.specs.declared.PixelOut.{PixelOut}
use Rattle.station.specs.declared.machine.VerdictOut.{VerdictOut}
use Rattle.station.specs.Matrices.{StationPreview, StationMeter}
use Rattle.station.specs.Vet.{StationVet}
use Rattle.promises.specs.Piped.{PipeRefusals}

pub record OtherCalls : Type 0 where
  pub station_preview : (matrix : List ℕ) (a b c : ℕ) (out : PixelOut) → Bytes matrix → StationPreview matrix a b c out
      → out.refusal ≢ 0 → (out.a ≡ 0) × (out.b ≡ 0) × (out.c ≡ 0)
  pub station_meter : (numbers : List Float) (matrix left : List ℕ) (out : CountOut) → StationMeter numbers matrix out left
      → out.refusal ≢ 0 → (out.count ≡ 0) × (left ≡ matrix)
  -- a pipe: 7 of bytes that are none, and the request's own number as its answer, whose byte is the pipe's state; and its two exported calls
  pub pipe : (pipe part : List ℕ) → PipeRefusals pipe part
  -- a vendor's list: beside a number other than 15 the place is 0; all four slices are lent to be read, and none can change
  pub station_vet : (image packet coefficients : List ℕ) (mark : ℕ) (list : List ℕ) (out : VerdictOut)
      → StationVet image packet coefficients mark list out → out.refusal ≢ 15 → out.place ≡ 0
