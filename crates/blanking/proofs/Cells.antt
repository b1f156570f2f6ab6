-- A test of a VIC, a repetition, a rate and two or eight channels: where every cell of the listed modes passes it, so does each video that is
-- offered. Assumes nothing.
use mathlib.Core.Path.{◌≡◌, refl, sym, ap, ◌∙◌}
use mathlib.Core.Logic.{◌⊎◌, inl, inr}
use mathlib.Core.Bool.{Bool, true, false, ◌&&◌}
use Prim.Native.Nat.{ℕ, ◌<◌, ◌≤◌}
use native.Mathlib.Omega.{arith}
use lib.Dec.{ltb}
use borrow.Author.Tests.{ltb-true, ne_eqb}
use Rattle.lists.specs.Among.{among}
use Rattle.lists.specs.Find.{every}
use Rattle.lists.proofs.Among.{stands}
use Rattle.lists.proofs.Find.{every_at}
use Rattle.lists.proofs.Both.{both_left, both_right}
use Rattle.lists.proofs.Decides.{Decides, refuted, less, together}
use Rattle.bits.proofs.Below.{below, at_below}
use Rattle.video.specs.declared.Video.{Video}
use Rattle.video.specs.Modes.{listed, mode_of, offered}
use Rattle.video.specs.Video.{repetition, PixelOutside}
use Rattle.video.proofs.Listed.{not_listed}
use Rattle.video.proofs.Fits.{is_pixel_outside}
use Rattle.sound.specs.declared.Sound.TheVariants.{On}
use Rattle.clock.proofs.Offered.{halves}
use Rattle.blanking.specs.Table.{highest_rate, TooMuch}

is_listed : (v : Video) → offered v ≡ true → among v.vic listed ≡ true
is_listed v o = go (among v.vic listed) refl
  where
    h : v.family < (mode_of v.vic).families
    h = ltb-true _ _ o

    go : (b : Bool) → among v.vic listed ≡ b → b ≡ true
    go true e = refl
    go false e = absurd ((not_listed v.vic).fails (ne_eqb (mode_of v.vic).families 0 (λ z. omega (arith, h, z))) e)

-- a test of every listed VIC
pub at_listed : (test : ℕ → Bool) → every test listed ≡ true → (v : Video) → offered v ≡ true → test v.vic ≡ true
at_listed test t v o =
    let s = stands v.vic listed (is_listed v o) in
    ap test (sym s.there) ∙ every_at test listed s.place 0 t s.within

module _ (P : ℕ → ℕ → ℕ → ℕ → Bool) where
  abbrev pub cells : ℕ → Bool
  cells vic = below (λ r. below (λ rate. P vic r rate 2 && P vic r rate 8) 7) 3

  of_channels : (vic r rate channels : ℕ) → (channels ≡ 2) ⊎ (channels ≡ 8) → (P vic r rate 2 && P vic r rate 8) ≡ true → P vic r rate channels ≡ true
  of_channels vic r rate channels (inl e) t = rw e (both_left _ (P vic r rate 8) t)
  of_channels vic r rate channels (inr e) t = rw e (both_right (P vic r rate 2) _ t)

  pub at_cell : every cells listed ≡ true → (v : Video) → offered v ≡ true → (PixelOutside v → ⊥)
      → (rate channels : ℕ) → rate ≤ 6 → (channels ≡ 2) ⊎ (channels ≡ 8) → P v.vic (repetition v) rate channels ≡ true
  at_cell t v o out rate channels h c =
      let row = at_listed cells t v o in
      let small = (halves v (refuted (is_pixel_outside v) out)).1 in
      let cell = at_below (λ r. below (λ rate. P v.vic r rate 2 && P v.vic r rate 8) 7) 3 (repetition v) row small in
      of_channels v.vic (repetition v) rate channels c
      (at_below (λ rate. P v.vic (repetition v) rate 2 && P v.vic (repetition v) rate 8) 7 rate cell (omega arith))

-- row 20, by its two tests
abbrev pub more : ℕ → ℕ → ℕ → ℕ → Bool
more vic r rate channels = ltb 2 channels && ltb (highest_rate vic r) rate

pub decides : (v : Video) (rate channels coherent : ℕ) → Decides (more v.vic (repetition v) rate channels) (TooMuch v (On rate channels coherent))
decides v rate channels coherent = together (less 2 channels) (less (highest_rate v.vic (repetition v)) rate)
