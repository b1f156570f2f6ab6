-- The C face of a pipe: what each exported call promises, as in `Face`. `Settled` says which outcome this is.
use Rattle.std.specs.Prelude.{◌≡◌, List, ℕ}
use Rattle.pipe.specs.Numbered.{Piped}
use Rattle.pipe.specs.Found.{take_of, take_pipe, end_pipe_of, end_pipe}
use Rattle.station.specs.declared.PipedOut.{PipedOut}

abbrev pub piped_out : Piped → PipedOut
piped_out p = record { refusal = p.refusal; answered = p.answered; count = p.count }

abbrev pub StationPipeTake : List ℕ → List ℕ → PipedOut → List ℕ → Type 0
StationPipeTake pipe part out left = (out ≡ piped_out (take_of pipe part)) × (left ≡ take_pipe pipe part)

abbrev pub StationPipeEnd : List ℕ → PipedOut → List ℕ → Type 0
StationPipeEnd pipe out left = (out ≡ piped_out (end_pipe_of pipe)) × (left ≡ end_pipe pipe)
