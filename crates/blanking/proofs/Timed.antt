-- Each timing makes its clock and its aspect: one test each over the table. Assumes nothing.
use mathlib.Core.Path.{◌≡◌, refl}
use mathlib.Core.Bool.{Bool, true, false, cond}
use mathlib.Core.List.{[], ◌∷◌}
use Prim.Native.Nat.{ℕ, ◌*◌}
use lib.Dec.{eqb}
use lib.ListN.{get_or}
use borrow.Author.Tests.{eqb-true}
use Rattle.lists.specs.Among.{among}
use Rattle.lists.specs.Find.{every}
use Rattle.lists.proofs.Find.{every_at}
use Rattle.video.specs.Modes.{mode_of}
use Rattle.blanking.specs.Timings.{Timing, timings, untimed}
use Rattle.blanking.specs.Theorems.{MakesAspect, Timed}

abbrev makes_clock : Timing → Bool
makes_clock t = eqb (t.pixels * t.lines * t.rate) ((mode_of t.vic).hertz * t.fields)

abbrev makes_aspect : Timing → Bool
makes_aspect t =
    let aspect : ℕ = (mode_of t.vic).aspect in
    cond (among t.vic (2 ∷ 3 ∷ 17 ∷ 18 ∷ [])) (eqb t.active_pixels 720)
    (eqb (t.active_pixels * get_or (0 ∷ 3 ∷ 9 ∷ []) aspect 0) (t.active_lines * get_or (0 ∷ 4 ∷ 16 ∷ []) aspect 0))

all_clocks : every makes_clock timings ≡ true
unfolding mode_of
all_clocks = refl

all_aspects : every makes_aspect timings ≡ true
unfolding mode_of
all_aspects = refl

of_aspect : (t : Timing) → makes_aspect t ≡ true → MakesAspect t
of_aspect t e = go (among t.vic (2 ∷ 3 ∷ 17 ∷ 18 ∷ [])) _ _ _ _ e
  where
    go : (b : Bool) (x y z w : ℕ) → cond b (eqb x y) (eqb z w) ≡ true → cond b (x ≡ y) (z ≡ w)
    go true x y z w e = eqb-true x y e
    go false x y z w e = eqb-true z w e

pub timed : Timed
timed =
    record {
      modes = refl;
      rows = refl;
      clocks = λ i h. eqb-true _ _ (every_at makes_clock timings i untimed all_clocks h);
      aspects = λ i h. of_aspect (get_or timings i untimed) (every_at makes_aspect timings i untimed all_aspects h);
    }
