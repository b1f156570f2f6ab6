-- A test at every number below n, which antt computes, and what it says of each of them.
-- Assumes nothing.
use mathlib.Core.Path.{◌≡◌, ap, ◌∙◌}
use mathlib.Core.Bool.{Bool, true, ◌&&◌}
use mathlib.Core.Logic.{◌⊎◌, inl, inr}
use Prim.Native.Nat.{ℕ, zero, suc, ◌<◌}
use Rattle.lists.proofs.Both.{both_left, both_right}
use native.Mathlib.Nat.{not-suc-le-zero, eq-or-lt_of_le, le_of_suc-le-suc}

-- the test f passes at every number below n
abbrev pub below : (ℕ → Bool) → ℕ → Bool
below f zero = true
below f (suc n) = f n && below f n

pub at_below : (f : ℕ → Bool) (n a : ℕ) → below f n ≡ true → a < n → f a ≡ true
at_below f zero a t h = absurd (not-suc-le-zero h)
at_below f (suc n) a t h = go (eq-or-lt_of_le (le_of_suc-le-suc h)) (at_below f n a (both_right (f n) (below f n) t))
  where
    go : (a ≡ n) ⊎ (a < n) → (a < n → f a ≡ true) → f a ≡ true
    go (inl e) ih = ap f e ∙ both_left (f n) (below f n) t
    go (inr l) ih = ih l
