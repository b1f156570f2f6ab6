-- The k that is taken is in range, and none in range is nearer. Assumes nothing.
use mathlib.Core.Path.{◌≡◌, refl, ap, ◌∙◌}
use mathlib.Core.Logic.{◌↔◌, ◌⊎◌, inl, inr}
use mathlib.Core.Bool.{Bool, true, false, cond}
use Prim.Native.Nat.{ℕ, ◌+◌, ◌-◌, ◌*◌, ◌/◌, ◌<◌, ◌≤◌}
use native.Mathlib.Nat.{div-mul-le_self, lt-div-mul-add, div-lt_iff_lt-mul, le-div_iff_mul-le, mul-le-mul_right, mul_left_comm, add-mul, one-mul}
use native.Mathlib.Omega.{arith}
use lib.Dec.{leb, ltb}
use borrow.Author.Tests.{leb-true, leb-false, ltb-true, ltb-false}
use Rattle.clock.specs.Found.{least_k, most_k, nearest_k}

-- k·(c·v) is c·(k·v)
inner : (c k v : ℕ) → k * (c * v) ≡ c * (k * v)
inner c k v = mul_left_comm k c v

next_times : (k v : ℕ) → (k + 1) * v ≡ k * v + v
next_times k v = add-mul k 1 v ∙ ap (λ (x : ℕ). k * v + x) (one-mul v)

pub least_in : (f v k : ℕ) → 0 < v → (least_k f v ≤ k) ↔ (f ≤ 1500 * (k * v))
least_in f v k h =
    let m : 0 < 1500 * v = omega arith in
    let i : (least_k f v < k + 1) ↔ (f + (1500 * v - 1) < (k + 1) * (1500 * v)) = div-lt_iff_lt-mul m in
    let e : (k + 1) * (1500 * v) ≡ 1500 * (k * v) + 1500 * v = next_times k (1500 * v) ∙ ap (λ (x : ℕ). x + 1500 * v) (inner 1500 k v) in
    ((λ l. let a = i.0 (omega arith) in omega arith), (λ l. let a = i.1 (omega arith) in omega arith))

pub most_in : (f u v k : ℕ) → 0 < u → 0 < v → (k ≤ most_k f u v) ↔ ((300 * (k * v) ≤ f) × (k * u ≤ 1048575))
most_in f u v k hu hv =
    let m : 0 < 300 * v = omega arith in
    let i : (k ≤ f / (300 * v)) ↔ (k * (300 * v) ≤ f) = le-div_iff_mul-le m in
    let j : (k ≤ 1048575 / u) ↔ (k * u ≤ 1048575) = le-div_iff_mul-le hu in
    let e : k * (300 * v) ≡ 300 * (k * v) = inner 300 k v in
    ((λ l. (let a = i.0 (omega arith) in omega arith, j.0 (omega arith))), (λ l. let a = i.1 (omega arith) in let b = j.1 l.1 in omega arith))

-- what is taken lies between the first and the last
pub between : (f v least most below : ℕ) → least ≤ most → (least ≤ nearest_k f v least most below) × (nearest_k f v least most below ≤ most)
unfolding nearest_k
between f v least most below h = go (leb most below) (ltb below least) (ltb (1000 * ((below + 1) * v) - f) (f - 1000 * (below * v))) refl refl
  where
    go : (a b c : Bool) → leb most below ≡ a → ltb below least ≡ b
        → (least ≤ cond a most (cond b least (cond c (below + 1) below))) × (cond a most (cond b least (cond c (below + 1) below)) ≤ most)
    go true b c e d = (omega arith, omega arith)
    go false true c e d = (omega arith, omega arith)
    go false false true e d = (omega (arith, leb-false most below e, ltb-false below least d), omega (arith, leb-false most below e))
    go false false false e d = (omega (arith, ltb-false below least d), omega (arith, leb-false most below e))

-- how far n lies from f/1000, in thousandths, and what it is to be the nearest, the smaller on a tie
abbrev pub away : ℕ → ℕ → ℕ
away f n = (1000 * n - f) + (f - 1000 * n)

abbrev pub Better : ℕ → ℕ → ℕ → Type 0
Better f n m = (away f n ≤ away f m) × (away f n ≡ away f m → n ≤ m)

split : (k j : ℕ) → (k ≤ j) ⊎ (j + 1 ≤ k)
split k j = go (leb k j) refl
  where
    go : (t : Bool) → leb k j ≡ t → (k ≤ j) ⊎ (j + 1 ≤ k)
    go true e = inl (leb-true k j e)
    go false e = inr (omega (arith, leb-false k j e))

module _ (f v least most below : ℕ) (low : 1000 * (below * v) ≤ f) (high : f ≤ 1000 * ((below + 1) * v)) where
  pub best : (k : ℕ) → least ≤ k → k ≤ most → Better f (nearest_k f v least most below * v) (k * v)
  unfolding nearest_k
  best k l m = go (leb most below) (ltb below least) (ltb (1000 * ((below + 1) * v) - f) (f - 1000 * (below * v))) refl refl refl
    where
      at_last : most ≤ below → Better f (most * v) (k * v)
      at_last h =
          let a : k * v ≤ most * v = mul-le-mul_right v m in
          let b : most * v ≤ below * v = mul-le-mul_right v h in
          (omega arith, (λ e. omega arith))

      at_first : below < least → Better f (least * v) (k * v)
      at_first h =
          let a : least * v ≤ k * v = mul-le-mul_right v l in
          let h1 : below + 1 ≤ least = omega arith in
          let b : (below + 1) * v ≤ least * v = mul-le-mul_right v h1 in
          (omega arith, (λ e. omega arith))

      side : (k ≤ below) ⊎ (below + 1 ≤ k) → (k * v ≤ below * v) ⊎ ((below + 1) * v ≤ k * v)
      side (inl h) = inl (mul-le-mul_right v h)
      side (inr h) = inr (mul-le-mul_right v h)

      after : 1000 * ((below + 1) * v) - f < f - 1000 * (below * v) → (k * v ≤ below * v) ⊎ ((below + 1) * v ≤ k * v) → Better f ((below + 1) * v) (k * v)
      after h (inl s) = (omega arith, (λ e. omega arith))
      after h (inr s) = (omega arith, (λ e. omega arith))

      here : f - 1000 * (below * v) ≤ 1000 * ((below + 1) * v) - f → (k * v ≤ below * v) ⊎ ((below + 1) * v ≤ k * v) → Better f (below * v) (k * v)
      here h (inl s) = (omega arith, (λ e. omega arith))
      here h (inr s) = (omega (arith, next_times below v), (λ e. omega (arith, next_times below v)))

      go : (a b c : Bool) → leb most below ≡ a → ltb below least ≡ b → ltb (1000 * ((below + 1) * v) - f) (f - 1000 * (below * v)) ≡ c
          → Better f (cond a most (cond b least (cond c (below + 1) below)) * v) (k * v)
      go true b c ea eb ec = at_last (leb-true _ _ ea)
      go false true c ea eb ec = at_first (ltb-true _ _ eb)
      go false false true ea eb ec = after (ltb-true _ _ ec) (side (split k below))
      go false false false ea eb ec = here (ltb-false _ _ ec) (side (split k below))

-- the last k with k·v at most f/1000
pub below_low : (f v : ℕ) → 1000 * (f / (1000 * v) * v) ≤ f
below_low f v = rw (inner 1000 (f / (1000 * v)) v) at (div-mul-le_self f (1000 * v))

pub below_high : (f v : ℕ) → 0 < v → f ≤ 1000 * ((f / (1000 * v) + 1) * v)
below_high f v h =
    let m : 0 < 1000 * v = omega arith in
    let l : f < f / (1000 * v) * (1000 * v) + 1000 * v = lt-div-mul-add m in
    omega (arith, inner 1000 (f / (1000 * v)) v, next_times (f / (1000 * v)) v)

-- what is taken where there is a k in range is in range, so both products are small
module _ (f u v below : ℕ) (hu : 0 < u) (hv : 0 < v) (h : least_k f v ≤ most_k f u v) where
  pub small_n : 300 * (nearest_k f v (least_k f v) (most_k f u v) below * v) ≤ f
  small_n = ((most_in f u v _ hu hv).0 (between f v _ _ below h).1).0

  pub small_cts : nearest_k f v (least_k f v) (most_k f u v) below * u ≤ 1048575
  small_cts = ((most_in f u v _ hu hv).0 (between f v _ _ below h).1).1
