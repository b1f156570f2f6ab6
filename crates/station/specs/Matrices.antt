-- The C face of the calls on a matrix: what each exported call promises, as in `Face`. `Settled` says which outcome this is.
use Rattle.std.specs.Prelude.{◌≡◌, List, ℕ, Float}
use Rattle.matrix.specs.Numbered.{Pixel}
use Rattle.matrix.specs.Preview.{preview_of}
use Rattle.meter.specs.Numbered.{Metered}
use Rattle.meter.specs.Found.{meter_of, meter_buffer}
use Rattle.station.specs.declared.CountOut.{CountOut}
use Rattle.station.specs.declared.PixelOut.{PixelOut}

abbrev pub meter_out : Metered → CountOut
meter_out m = record { refusal = m.refusal; count = m.count }

abbrev pub pixel_out : Pixel → PixelOut
pixel_out p = record { refusal = p.refusal; a = p.a; b = p.b; c = p.c }

abbrev pub StationPreview : List ℕ → ℕ → ℕ → ℕ → PixelOut → Type 0
StationPreview matrix a b c out = out ≡ pixel_out (preview_of matrix a b c)

abbrev pub StationMeter : List Float → List ℕ → CountOut → List ℕ → Type 0
StationMeter numbers matrix out left = (out ≡ meter_out (meter_of numbers matrix)) × (left ≡ meter_buffer numbers matrix)
