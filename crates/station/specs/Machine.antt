-- The C face of the chip machine and of the class table: what each exported call promises, as in `Face`.
-- `Settled` says which outcome this is.
use Rattle.std.specs.Prelude.{◌≡◌, List, ℕ}
use Rattle.registers.specs.declared.Class.{Class}
use Rattle.registers.specs.Classes.{class_at}
use Rattle.views.specs.Numbered.{Part}
use Rattle.views.specs.Numbered.{Mute}
use Rattle.views.specs.Numbered.{Count}
use Rattle.views.specs.Entry.{Lent, enter_of, turn_of}
use Rattle.views.specs.View.{sent_part, mute_of}
use Rattle.views.specs.Converter.{matrix_answer, matrix_out}
use Rattle.station.specs.declared.CountOut.{CountOut}
use Rattle.station.specs.declared.machine.PartOut.{PartOut}
use Rattle.station.specs.declared.machine.StateOut.{StateOut}
use Rattle.station.specs.declared.machine.ClassOut.{ClassOut}

abbrev pub part_out : Part → PartOut
part_out p = record { refusal = p.refusal; held = p.held; start = p.start; len = p.len }

abbrev pub mute_out : Mute → StateOut
mute_out m = record { refusal = m.refusal; mute = m.mute }

abbrev pub bytes_out : Count → CountOut
bytes_out c = record { refusal = c.refusal; count = c.count }

abbrev pub class_out : Class → ClassOut
class_out c = record { read_only = c.read_only; mandated = c.mandated; named = c.named; free = c.free; bits = c.bits }

abbrev pub StationWrite : Lent → ℕ → ℕ → ℕ → Lent → Type 0
StationWrite l address value out left = (out ≡ (enter_of l address value).refusal) × (left ≡ (enter_of l address value).slices)

abbrev pub StationVsync : Lent → ℕ → Lent → Type 0
StationVsync l out left = (out ≡ (turn_of l).refusal) × (left ≡ (turn_of l).slices)

abbrev pub StationSent : List ℕ → List ℕ → ℕ → PartOut → Type 0
StationSent image packet which out = out ≡ part_out (sent_part image packet which)

abbrev pub StationMute : List ℕ → List ℕ → StateOut → Type 0
StationMute image packet out = out ≡ mute_out (mute_of image packet)

abbrev pub StationMatrix : List ℕ → List ℕ → ℕ → List ℕ → CountOut → List ℕ → Type 0
StationMatrix image coefficients mark matrix out left =
    (out ≡ bytes_out (matrix_answer image coefficients matrix)) × (left ≡ matrix_out image coefficients mark matrix)

abbrev pub StationClass : ℕ → ClassOut → Type 0
StationClass address out = out ≡ class_out (class_at address)
