-- The C face of a vendor's list: what the exported call promises, as in `Face`. `Settled` says which outcome this is.
use Rattle.std.specs.Prelude.{◌≡◌, List, ℕ}
use Rattle.chip.specs.Write.{lent_as}
use Rattle.views.specs.Entry.{marked}
use Rattle.vendor.specs.Numbered.{Verdict}
use Rattle.vendor.specs.Found.{vet_of}
use Rattle.station.specs.declared.machine.VerdictOut.{VerdictOut}

abbrev pub verdict_out : Verdict → VerdictOut
verdict_out v = record { refusal = v.refusal; place = v.place }

abbrev pub StationVet : List ℕ → List ℕ → List ℕ → ℕ → List ℕ → VerdictOut → Type 0
StationVet image packet coefficients mark list out = out ≡ verdict_out (vet_of (lent_as image packet coefficients (marked mark)) list)
