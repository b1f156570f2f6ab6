-- The rule against the cells that the standard prints, and against the table: one test each. Assumes nothing.
use mathlib.Core.Path.{◌≡◌, refl, sym, ◌∙◌, subst}
use mathlib.Core.Logic.{◌↔◌}
use mathlib.Core.Bool.{Bool, true, false, false≢true, not, beq}
use Prim.Native.Nat.{ℕ, ◌+◌, ◌-◌, ◌<◌, ◌≤◌}
use native.Mathlib.Omega.{arith}
use lib.Dec.{ltb, lit≤}
use lib.ListN.{get_or}
use borrow.Author.Tests.{ltb-true, ltb-false, lt-ltb, not-true}
use Rattle.lists.specs.Find.{every}
use Rattle.lists.proofs.Find.{every_at}
use Rattle.lists.proofs.Both.{beq_true}
use Rattle.lists.proofs.Decides.{confirmed}
use Rattle.bits.proofs.Below.{below, at_below}
use Rattle.video.specs.declared.Video.{Video}
use Rattle.video.specs.Modes.{listed, offered}
use Rattle.video.specs.Video.{repetition, PixelOutside}
use Rattle.sound.specs.Rates.{hertz_of}
use Rattle.sound.specs.declared.Sound.TheVariants.{On}
use Rattle.sound.specs.Fits.{SoundFits}
use Rattle.blanking.specs.Table.{highest_rate, TooMuch}
use Rattle.blanking.specs.Room.{overhead, samples_in}
use Rattle.blanking.specs.Theorems.{printed_cells, GivesPrinted, Standard}
use Rattle.blanking.proofs.Cells.{cells, at_cell, more, decides}

-- two tests that agree decide the same
alike : (a b c d : ℕ) → beq (ltb a b) (ltb c d) ≡ true → (a < b) ↔ (c < d)
alike a b c d t =
    let e = beq_true _ _ t in
    ((λ h. ltb-true c d (sym e ∙ lt-ltb a b h)), (λ h. ltb-true a b (e ∙ lt-ltb c d h)))

-- ---- the cells that are printed, by each of ten overheads

abbrev gives : ℕ → ℕ × ℕ → ℕ → Bool
gives apart cell rate = beq (ltb (samples_in apart cell.0 cell.1 8) (hertz_of rate)) (ltb (highest_rate cell.0 cell.1) rate)

abbrev gives_cell : ℕ × ℕ → Bool
gives_cell cell = below (λ k. below (gives (65 + k) cell) 7) 10

all_rows : every gives_cell printed_cells ≡ true
all_rows = refl

within_by : (k : ℕ) → k < 10 → GivesPrinted (65 + k)
within_by k n i h rate r =
    let cell : ℕ × ℕ = get_or printed_cells i (0, 0) in
    let t = at_below (λ k. below (gives (65 + k) cell) 7) 10 k (every_at gives_cell printed_cells i (0, 0) all_rows h) n in
    alike (samples_in (65 + k) cell.0 cell.1 8) (hertz_of rate) (highest_rate cell.0 cell.1) rate (at_below (gives (65 + k) cell) 7 rate t (omega arith))

-- one of the ten
module _ (apart : ℕ) (l : 65 ≤ apart) (h : apart ≤ 74) where
  its_place : 65 + (apart - 65) ≡ apart
  its_place = omega (arith, l)

  one_of_ten : apart - 65 < 10
  one_of_ten = omega (arith, l, h)

  within : GivesPrinted apart
  within = subst GivesPrinted its_place (within_by (apart - 65) one_of_ten)

-- ---- and by no other: VGA has room for three packets a line by a lower one, 480p for one by a higher

low : (apart : ℕ) → samples_in apart 1 0 8 < 88200 → 65 ≤ apart
low apart h = go (ltb apart 65) refl
  where
    go : (b : Bool) → ltb apart 65 ≡ b → 65 ≤ apart
    go true e =
        absurd (false≢true (sym (not-true _ (at_below (λ a. not (ltb (samples_in a 1 0 8) 88200)) 65 apart refl (ltb-true apart 65 e))) ∙ lt-ltb _ _ h))
    go false e = ltb-false apart 65 e

high : (apart : ℕ) → (samples_in apart 2 0 8 < 48000 → ⊥) → apart ≤ 74
high apart h = go (ltb 74 apart) refl
  where
    go : (b : Bool) → ltb 74 apart ≡ b → apart ≤ 74
    go true e = let l = ltb-true 74 apart e in absurd (h (omega (arith, l)))
    go false e = ltb-false 74 apart e

beyond : (apart : ℕ) → GivesPrinted apart → (65 ≤ apart) × (apart ≤ 74)
beyond apart g = (low apart ((g 0 (lit≤ tt) 3 (lit≤ tt)).1 (lit≤ tt)), high apart (λ h. none ((g 1 (lit≤ tt) 2 (lit≤ tt)).0 h)))
  where
    none : 2 < 2 → ⊥
    none h = omega (arith, h)

-- ---- each of the ten gives the table

abbrev agrees_by : ℕ → ℕ → ℕ → ℕ → ℕ → Bool
agrees_by vic r rate channels k = beq (ltb (samples_in (65 + k) vic r channels) (hertz_of rate)) (more vic r rate channels)

abbrev agrees : ℕ → ℕ → ℕ → ℕ → Bool
agrees vic r rate channels = below (agrees_by vic r rate channels) 10

all_agree : every (cells agrees) listed ≡ true
all_agree = refl

module _ (v : Video) (o : offered v ≡ true) (out : PixelOutside v → ⊥) (rate channels coherent : ℕ) (f : SoundFits (On rate channels coherent)) where
  abbrev Told : ℕ → Type 0
  Told apart = (samples_in apart v.vic (repetition v) channels < hertz_of rate) ↔ TooMuch v (On rate channels coherent)

  told_by : (k : ℕ) → k < 10 → Told (65 + k)
  told_by k n =
      let cell = at_cell agrees all_agree v o out rate channels f.0 f.1 in
      let e = beq_true _ _ (at_below (agrees_by v.vic (repetition v) rate channels) 10 k cell n) in
      let d = decides v rate channels coherent in
      ((λ h. d.passes (sym e ∙ lt-ltb _ _ h)), (λ h. ltb-true _ _ (e ∙ confirmed d h)))

  told : (apart : ℕ) → 65 ≤ apart → apart ≤ 74 → Told apart
  told apart l h = subst Told (its_place apart l h) (told_by (apart - 65) (one_of_ten apart l h))

pub standard : Standard
standard =
    record {
      count = refl;
      rows = within overhead (lit≤ tt) (lit≤ tt);
      fixed = λ apart. (beyond apart, λ p. within apart p.0 p.1);
      table = λ apart g v rate channels coherent o out f. let p = beyond apart g in told v o out rate channels coherent f apart p.0 p.1;
    }
