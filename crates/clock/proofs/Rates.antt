-- The numbers of the tables are neither 0 nor large. Assumes nothing.
use mathlib.Core.Path.{◌≡◌, refl}
use mathlib.Core.Bool.{Bool, true, ◌&&◌}
use mathlib.Core.List.{List, [], ◌∷◌, map}
use Prim.Native.Nat.{ℕ, zero, suc, ◌<◌, ◌≤◌}
use native.Mathlib.Omega.{arith}
use lib.Dec.{leb, ltb}
use lib.ListN.{get_or}
use borrow.Author.Tests.{leb-true, ltb-true}
use Rattle.lists.proofs.Both.{both_left, both_right}
use Rattle.bits.proofs.Below.{at_below}
use Rattle.sound.specs.Rates.{rates, hertz_of}
use Rattle.sound.proofs.Rates.{column}
use Rattle.clock.specs.Bounds.{rate_most, reference_most}
use Rattle.clock.specs.Pairs.{reference}

-- a list's numbers are at most m, and so is what stands at any place
abbrev pub all_most : ℕ → List ℕ → Bool
all_most m [] = true
all_most m (x ∷ xs) = leb x m && all_most m xs

pub at_most : (m : ℕ) (l : List ℕ) (i : ℕ) → all_most m l ≡ true → get_or l i 0 ≤ m
at_most m [] i t = omega arith
at_most m (x ∷ xs) zero t = leb-true x m (both_left (leb x m) (all_most m xs) t)
at_most m (x ∷ xs) (suc i) t = at_most m xs i (both_right (leb x m) (all_most m xs) t)

pub rate_most_lem : (rate : ℕ) → hertz_of rate ≤ rate_most
rate_most_lem rate = rw (column (λ r. r.0) refl rates rate) at (at_most rate_most (map (λ r. r.0) rates) rate refl)

pub reference_most_lem : (rate : ℕ) → reference rate ≤ reference_most
unfolding reference
reference_most_lem rate = omega (arith, rate_most_lem rate)

pub reference_some : (rate : ℕ) → rate < 7 → 0 < reference rate
unfolding reference
reference_some rate h = omega (arith, ltb-true 0 (hertz_of rate) (at_below (λ r. ltb 0 (hertz_of r)) 7 rate refl h))
