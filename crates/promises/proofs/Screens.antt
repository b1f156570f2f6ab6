-- The calls of a screen's EDID: by what `edid` promises. Assumes nothing.
use mathlib.Core.Path.{refl, ap, ◌∙◌}
use mathlib.Core.List.{List}
use Prim.Native.Nat.{ℕ}
use Rattle.edid.specs.Numbered.{Monitor}
use Rattle.edid.specs.Numbered.{Choice}
use Rattle.edid.specs.Theorems.{Overview, Chooses}
use Rattle.station.specs.declared.MonitorOut.{MonitorOut}
use Rattle.station.specs.declared.ChoiceOut.{ChoiceOut}
use Rattle.promises.specs.Screens.{ScreenCalls}
use Rattle.promises.proofs.Outcomes.{one}

pub screen_calls : ((edid : List ℕ) → Overview edid) → ((edid input wishes : List ℕ) → Chooses edid input wishes) → ScreenCalls
screen_calls shows chooses = record {
  edid = λ edid. refl;
  choose = λ edid input wishes. refl;
  station_edid = λ edid out p h.
      let u = (shows edid).nothing (λ z. h (ap (λ (o : MonitorOut). o.refusal) p ∙ z)) in (
        ap (λ (o : MonitorOut). o.vics_low) p ∙ ap (λ (m : Monitor). m.vics_low) u,
        ap (λ (o : MonitorOut). o.vics_high) p ∙ ap (λ (m : Monitor). m.vics_high) u,
        ap (λ (o : MonitorOut). o.rates_2) p ∙ ap (λ (m : Monitor). m.rates_2) u,
        ap (λ (o : MonitorOut). o.rates_8) p ∙ ap (λ (m : Monitor). m.rates_8) u,
      );
  station_choose = λ edid request wishes out p h.
      let u = (chooses edid request wishes).nothing (λ z. h (ap (λ (o : ChoiceOut). o.refusal) p ∙ z)) in
      (ap (λ (o : ChoiceOut). o.place) p ∙ ap (λ (c : Choice). c.place) u, ap (λ (o : ChoiceOut). o.at) p ∙ ap (λ (c : Choice). c.at) u);
  overview = λ edid. one _;
  chosen = λ edid request wishes. one _;
  settles_edid = λ edid. one _;
  settles_choose = λ edid request wishes. one _;
}
