-- Wishes, two bytes each: at a place behind which there are not two, none is left. Assumes nothing.
use mathlib.Core.List.{List, [], ◌∷◌}
use mathlib.Core.Path.{◌≡◌, refl}
use Prim.Native.Nat.{ℕ, ◌-◌, ◌<◌}
use native.Mathlib.Omega.{arith}
use lib.ListN.{length, drop, length-drop}
use Rattle.edid.specs.Wish.{wishes_in}

odd : (l : List ℕ) → length l < 2 → wishes_in l ≡ []
odd [] h = refl
odd (a ∷ []) h = refl
odd (a ∷ b ∷ l) h = absurd (omega arith)

module _ (l : List ℕ) (i : ℕ) where
  pub no_wish_lem : length l - i < 2 → wishes_in (drop i l) ≡ []
  no_wish_lem h = odd (drop i l) (omega (arith, length-drop i l))
