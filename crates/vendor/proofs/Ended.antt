-- A list by its last pair. Assumes nothing.
use mathlib.Core.Path.{◌≡◌, refl, sym, ap}
use mathlib.Core.List.{List, [], ◌∷◌, ◌++◌}
use Prim.Native.Nat.{ℕ, zero, suc}
use native.Mathlib.Nat.{suc-ne-zero}
use native.Mathlib.Omega.{arith}
use lib.ListN.{length, take}
use Rattle.chip.specs.Machine.{Write}
use Rattle.vendor.specs.Vendor.{pair_at}

pub last_of : (ws : List Write) (k : ℕ) → length ws ≡ suc k → ws ≡ take k ws ++ pair_at ws k ∷ []
last_of [] k e = absurd (suc-ne-zero k (sym e))
last_of (w ∷ []) zero e = refl
last_of (w ∷ []) (suc k) e = absurd (suc-ne-zero k (let q : suc k ≡ 0 = omega (arith, e) in q))
last_of (w ∷ x ∷ ws) zero e = absurd (suc-ne-zero (length ws) (let q : suc (length ws) ≡ 0 = omega (arith, e) in q))
last_of (w ∷ x ∷ ws) (suc k) e = ap (λ (l : List Write). w ∷ l) (last_of (x ∷ ws) k (omega (arith, e)))
