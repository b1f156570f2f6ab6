-- The C face of a screen's EDID: what each exported call promises, as in `Face`. `Settled` says which outcome this is.
use Rattle.std.specs.Prelude.{◌≡◌, List, ℕ}
use Rattle.edid.specs.Numbered.{Monitor}
use Rattle.edid.specs.Numbered.{Choice}
use Rattle.edid.specs.Found.{monitor_of, choose_of}
use Rattle.station.specs.declared.MonitorOut.{MonitorOut}
use Rattle.station.specs.declared.ChoiceOut.{ChoiceOut}

abbrev pub monitor_out : Monitor → MonitorOut
monitor_out m =
    record {
      refusal = m.refusal;
      vics_low = m.vics_low;
      vics_high = m.vics_high;
      rates_2 = m.rates_2;
      rates_8 = m.rates_8;
    }

abbrev pub choice_out : Choice → ChoiceOut
choice_out c = record { refusal = c.refusal; place = c.place; at = c.at }

abbrev pub StationEdid : List ℕ → MonitorOut → Type 0
StationEdid edid out = out ≡ monitor_out (monitor_of edid)

abbrev pub StationChoose : List ℕ → List ℕ → List ℕ → ChoiceOut → Type 0
StationChoose edid request wishes out = out ≡ choice_out (choose_of edid request wishes)
