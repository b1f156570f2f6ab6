-- Demand 1, of the calls of document 02's request 12: a screen's EDID, a request and wishes. All are lent to be read, and none can change. When
-- each row applies stands with the calls: `Overview`, `Chooses`.
use Rattle.std.specs.Prelude.{◌≡◌, ◌≢◌, List, [], ◌∷◌, ℕ}
use Rattle.edid.specs.Numbered.{Monitor}
use Rattle.edid.specs.Numbered.{Choice}
use Rattle.edid.specs.Order.{screen_numbers}
use Rattle.edid.specs.Screen.{edid_rules}
use Rattle.edid.specs.Wish.{choose_rules}
use Rattle.edid.specs.Found.{monitor_of, ShowsScreen, choose_of, ChoosesWish}
use Rattle.station.specs.declared.MonitorOut.{MonitorOut}
use Rattle.station.specs.declared.ChoiceOut.{ChoiceOut}
use Rattle.station.specs.Screen.{StationEdid, StationChoose}
use Rattle.promises.specs.Settled.{Only}

pub record ScreenCalls : Type 0 where
  -- the refusals of each call in their order
  pub edid : (edid : List ℕ) → screen_numbers (edid_rules edid) ≡ 21 ∷ 22 ∷ 23 ∷ []
  pub choose : (edid input wishes : List ℕ) → screen_numbers (choose_rules edid input wishes) ≡ 21 ∷ 22 ∷ 23 ∷ 24 ∷ []
  -- beside a refusal all is 0
  pub station_edid : (edid : List ℕ) (out : MonitorOut) → StationEdid edid out
      → out.refusal ≢ 0 → (out.vics_low ≡ 0) × (out.vics_high ≡ 0) × (out.rates_2 ≡ 0) × (out.rates_8 ≡ 0)
  pub station_choose : (edid request wishes : List ℕ) (out : ChoiceOut) → StationChoose edid request wishes out
      → out.refusal ≢ 0 → (out.place ≡ 0) × (out.at ≡ 0)
  -- each promise allows its outcome, and no other
  pub overview : (edid : List ℕ) → Only {A = Monitor} (ShowsScreen edid) (monitor_of edid)
  pub chosen : (edid request wishes : List ℕ) → Only {A = Choice} (ChoosesWish edid request wishes) (choose_of edid request wishes)
  pub settles_edid : (edid : List ℕ)
      → let m : Monitor = monitor_of edid in
      Only {A = MonitorOut} (StationEdid edid)
      (record {
        refusal = m.refusal;
        vics_low = m.vics_low;
        vics_high = m.vics_high;
        rates_2 = m.rates_2;
        rates_8 = m.rates_8;
      })
  pub settles_choose : (edid request wishes : List ℕ)
      → let c : Choice = choose_of edid request wishes in
      Only {A = ChoiceOut} (StationChoose edid request wishes) (record { refusal = c.refusal; place = c.place; at = c.at })
