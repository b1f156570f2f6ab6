-- The nearest whole number, of any sign: `closest` of the sizes with the sign, and no other. A signed number is a difference of two natural
-- numbers (`Differs`), and where both fractions are moved up by an even number nothing is below zero. Assumes nothing.
use mathlib.Core.Path.{◌≡◌, refl, sym, ap, ◌∙◌}
use mathlib.Core.Logic.{◌⊎◌, inl, inr}
use mathlib.Core.Bool.{Bool, true, false, cond}
use Prim.Native.Nat.{ℕ, zero, suc, ◌+◌, ◌-◌, ◌*◌, ◌%◌, ◌≤◌, ◌<◌}
use native.Mathlib.Nat.{add-mul, mul_assoc, mul-le-mul_left}
use native.Mathlib.Omega.{arith}
use lib.Dec.{ltb}
use lib.IntN.{ℤ, pos, negsuc, neg_ℤ, nat_abs, ◌*ℤ◌, ◌-ℤ◌}
use lib.Ieee.Nearest.{closest}
use borrow.Author.Tests.{ltb-true, ltb-false}
use Rattle.matrix.proofs.Differences.{Differs, of_neg, plus, scaled}
use Rattle.meter.specs.Nearest.{Nearest, Rounds}
use Rattle.meter.proofs.HalfUnit.{HalfUnit, nearest_half, only}

abbrev pub signed_by : Bool → ℕ → ℤ
signed_by s n = cond s (neg_ℤ (pos n)) (pos n)

-- ---- how far n·b is from a, by any differences
size_of : {z : ℤ} {x y : ℕ} → Differs z x y → nat_abs z ≡ (x - y) + (y - x)
size_of {z = pos n} h = omega (arith, h.apart)
size_of {z = negsuc n} h = omega (arith, h.apart)

minus : {z : ℤ} {x y : ℕ} → Differs z x y → Differs (neg_ℤ z) y x
minus {z = pos zero} h = record { apart = omega (arith, h.apart) }
minus {z = pos (suc n)} h = record { apart = h.apart }
minus {z = negsuc n} h = record { apart = h.apart }

apart : {n a : ℤ} {p q r s : ℕ} (b : ℕ) → Differs n p q → Differs a r s
    → nat_abs (n *ℤ pos b -ℤ a) ≡ (p * b + s - (q * b + r)) + (q * b + r - (p * b + s))
apart b h k = size_of (plus (scaled b h) (minus k))

-- ---- there is one
by_sign : (s : Bool) (n : ℕ) → Differs (signed_by s n) (cond s 0 n) (cond s n 0)
by_sign false n = record { apart = omega arith }
by_sign true n = of_neg n (omega arith)

size_signed : (s : Bool) (n : ℕ) → nat_abs (signed_by s n) ≡ n
size_signed false n = refl
size_signed true zero = refl
size_signed true (suc n) = refl

-- the distance is that of the sizes
distance : (s : Bool) (a b n : ℕ) → nat_abs (signed_by s n *ℤ pos b -ℤ signed_by s a) ≡ (n * b - a) + (a - n * b)
distance false a b n = apart b (by_sign false n) (by_sign false a) ∙ omega arith
distance true a b n = apart b (by_sign true n) (by_sign true a) ∙ omega arith

either_side : (x y : ℕ) → (x ≤ y) ⊎ (y ≤ x)
either_side x y = go (ltb x y) refl
  where
    go : (t : Bool) → ltb x y ≡ t → (x ≤ y) ⊎ (y ≤ x)
    go true e = inl (omega (arith, ltb-true x y e))
    go false e = inr (ltb-false x y e)

pub half_signed : (s : Bool) (a b n : ℕ) → HalfUnit a b n → Nearest (signed_by s a) b (signed_by s n)
half_signed s a b n u =
    let d = distance s a b n in
    record {
      within = omega (arith, d, u.above, u.below);
      even = λ t. size_signed_even (side (either_side (n * b) a) (ap (λ (m : ℕ). 2 * m) (sym d) ∙ t));
    }
  where
    size_signed_even : n % 2 ≡ 0 → nat_abs (signed_by s n) % 2 ≡ 0
    size_signed_even e = ap (λ (m : ℕ). m % 2) (size_signed s n) ∙ e

    up : (v : ℕ) → a ≤ v → 2 * ((v - a) + (a - v)) ≡ b → 2 * v ≡ 2 * a + b
    up v h t = omega arith

    down : (v : ℕ) → v ≤ a → 2 * ((v - a) + (a - v)) ≡ b → 2 * a ≡ 2 * v + b
    down v h t = omega arith

    side : (n * b ≤ a) ⊎ (a ≤ n * b) → 2 * ((n * b - a) + (a - n * b)) ≡ b → n % 2 ≡ 0
    side (inl h) t = u.tie_down (down (n * b) h t)
    side (inr h) t = u.tie_up (up (n * b) h t)

-- ---- and no other
abbrev above : ℤ → ℕ
above (pos n) = n
above (negsuc n) = 0

abbrev under : ℤ → ℕ
under (pos n) = 0
under (negsuc n) = suc n

own : (z : ℤ) → Differs z (above z) (under z)
own (pos n) = record { apart = omega arith }
own (negsuc n) = record { apart = omega arith }

size_own : (z : ℤ) → nat_abs z ≡ above z + under z
size_own (pos n) = omega arith
size_own (negsuc n) = omega arith

-- moved up by 2·k
moved : (a : ℤ) (b : ℕ) (n : ℤ) (k A N : ℕ) → N + under n ≡ 2 * k + above n → A + under a ≡ 2 * k * b + above a → Nearest a b n → HalfUnit A b N
moved a b n k A N e f u =
    let d = apart b (own n) (own a) in
    let g : N * b + under n * b ≡ 2 * k * b + above n * b =
    sym (add-mul N (under n) b) ∙ ap (λ (m : ℕ). m * b) e ∙ add-mul (2 * k) (above n) b
    in
    record {
      above = omega (arith, d, u.within);
      below = omega (arith, d, u.within);
      tie_up = λ t. parity (u.even (omega (arith, d)));
      tie_down = λ t. parity (u.even (omega (arith, d)));
    }
  where
    parity : nat_abs n % 2 ≡ 0 → N % 2 ≡ 0
    parity h = omega (arith, size_own n)

same : (n m : ℤ) → above n + under m ≡ above m + under n → n ≡ m
same (pos n) (pos m) e = ap pos (omega arith)
same (pos n) (negsuc m) e = absurd (none e)
  where
    none : n + suc m ≡ 0 + 0 → ⊥
    none e = omega arith
same (negsuc n) (pos m) e = absurd (none e)
  where
    none : 0 + 0 ≡ m + suc n → ⊥
    none e = omega arith
same (negsuc n) (negsuc m) e = ap negsuc (omega arith)

pub alone : (a : ℤ) (b : ℕ) (n m : ℤ) → 0 < b → Nearest a b n → Nearest a b m → n ≡ m
alone a b n m h u v =
    let k = under n + under m + under a in
    let N = 2 * k + above n - under n in
    let M = 2 * k + above m - under m in
    let A = 2 * k * b + above a - under a in
    let wide : k * 1 ≤ k * b = mul-le-mul_left k h in
    let room : under a ≤ 2 * k * b = large (under n + under m) (under a) wide in
    let e : N + under n ≡ 2 * k + above n = omega arith in
    let f : M + under m ≡ 2 * k + above m = omega arith in
    let g : A + under a ≡ 2 * k * b + above a = omega arith in
    let s : N ≡ M = only A b N M h (moved a b n k A N e g u) (moved a b m k A M f g v) in
    same n m (omega arith)
  where
    large : (x y : ℕ) → (x + y) * 1 ≤ (x + y) * b → y ≤ 2 * (x + y) * b
    large x y w = omega (arith, mul_assoc 2 (x + y) b)

pub rounds : (a : ℤ) (b : ℕ) → 0 < b → Rounds a b
rounds (pos a) b h = record {
  nearest = pos (closest a b);
  is = half_signed false a b (closest a b) (nearest_half a b h);
  only = λ n u. alone (pos a) b n (pos (closest a b)) h u (half_signed false a b (closest a b) (nearest_half a b h));
}
rounds (negsuc a) b h = record {
  nearest = signed_by true (closest (suc a) b);
  is = half_signed true (suc a) b (closest (suc a) b) (nearest_half (suc a) b h);
  only = λ n u. alone (negsuc a) b n (signed_by true (closest (suc a) b)) h u (half_signed true (suc a) b (closest (suc a) b) (nearest_half (suc a) b h));
}
