-- `closest` is the nearest natural number, the even one on a tie, and no other is. Assumes nothing.
use mathlib.Core.Path.{◌≡◌, refl, sym, ap, ◌∙◌, subst}
use Prim.Native.Nat.{ℕ, zero, suc, ◌+◌, ◌*◌, ◌/◌, ◌%◌, ◌≤◌, ◌<◌}
use native.Mathlib.Nat.{div-add-mod', mod-lt, add-mul, one-mul, mul-le-mul_right}
use native.Mathlib.Omega.{arith}
use mathlib.Core.Bool.{Bool, true, false, not}
use lib.Dec.{T, ltb→lt, nltb→le, ltb}
use lib.Ieee.Nearest.{closest}
use Rattle.meter.proofs.Shifted.{down, up, tied}

-- n is the whole number nearest to a / b, the even one on a tie, of natural numbers
pub record HalfUnit (a b n : ℕ) : Type 0 where
  pub above : 2 * (n * b) ≤ 2 * a + b
  pub below : 2 * a ≤ 2 * (n * b) + b
  pub tie_up : 2 * (n * b) ≡ 2 * a + b → n % 2 ≡ 0
  pub tie_down : 2 * a ≡ 2 * (n * b) + b → n % 2 ≡ 0

-- n * b under a name
of : (a b n v : ℕ) → v ≡ n * b → 2 * v ≤ 2 * a + b → 2 * a ≤ 2 * v + b → (2 * v ≡ 2 * a + b → n % 2 ≡ 0) → (2 * a ≡ 2 * v + b → n % 2 ≡ 0) → HalfUnit a b n
of a b n v e p q s t = record {
  above = subst (λ (k : ℕ). 2 * k ≤ 2 * a + b) e p;
  below = subst (λ (k : ℕ). 2 * a ≤ 2 * k + b) e q;
  tie_up = subst (λ (k : ℕ). 2 * k ≡ 2 * a + b → n % 2 ≡ 0) e s;
  tie_down = subst (λ (k : ℕ). 2 * a ≡ 2 * k + b → n % 2 ≡ 0) e t;
}

next : (q b : ℕ) → q * b + b ≡ (q + 1) * b
next q b = ap (λ (k : ℕ). q * b + k) (sym (one-mul b)) ∙ sym (add-mul q 1 b)

-- below a half, above it, and at it
less : (a b q r w : ℕ) → w ≡ q * b → w + r ≡ a → r * 2 < b → HalfUnit a b q
less a b q r w e s h = of a b q w e (omega arith) (omega arith) (λ t. absurd (x t)) (λ t. absurd (y t))
  where
    x : 2 * w ≡ 2 * a + b → ⊥
    x t = omega arith

    y : 2 * a ≡ 2 * w + b → ⊥
    y t = omega arith

more : (a b q r w : ℕ) → w + b ≡ (q + 1) * b → w + r ≡ a → r < b → b < r * 2 → HalfUnit a b (q + 1)
more a b q r w e s l h = of a b (q + 1) (w + b) e (omega arith) (omega arith) (λ t. absurd (x t)) (λ t. absurd (y t))
  where
    x : 2 * (w + b) ≡ 2 * a + b → ⊥
    x t = omega arith

    y : 2 * a ≡ 2 * (w + b) + b → ⊥
    y t = omega arith

half : (a b q r w : ℕ) → w ≡ q * b → w + b ≡ (q + 1) * b → w + r ≡ a → r * 2 ≡ b → HalfUnit a b (q + q % 2)
half a b q r w e f s h = go (q % 2) refl
  where
    go : (p : ℕ) → q % 2 ≡ p → HalfUnit a b (q + p)
    go zero z = subst (λ (n : ℕ). HalfUnit a b n) (plus q) (of a b q w e (omega arith) (omega arith) (λ t. z) (λ t. z))
      where
        plus : (q : ℕ) → q ≡ q + 0
        plus q = omega arith
    go (suc zero) z = of a b (q + 1) (w + b) f (omega arith) (omega arith) (λ t. odd q z) (λ t. odd q z)
      where
        odd : (q : ℕ) → q % 2 ≡ 1 → (q + 1) % 2 ≡ 0
        odd q z = omega arith
    go (suc (suc p)) z = absurd (none q p z)
      where
        none : (q p : ℕ) → q % 2 ≡ suc (suc p) → ⊥
        none q p z = omega arith

pub nearest_half : (a b : ℕ) → 0 < b → HalfUnit a b (closest a b)
nearest_half a b h = go (ltb (a % b * 2) b) (ltb b (a % b * 2)) (ltb→lt (a % b * 2) b) (nltb→le (a % b * 2) b) (ltb→lt b (a % b * 2)) (nltb→le b (a % b * 2))
  where
    go : (x y : Bool) → (T x → a % b * 2 < b) → (T (not x) → b ≤ a % b * 2) → (T y → b < a % b * 2) → (T (not y) → a % b * 2 ≤ b) → HalfUnit a b (closest a b)
    go true y f g i j = subst (λ (n : ℕ). HalfUnit a b n) (down a b (f tt)) (less a b (a / b) (a % b) (a / b * b) refl (div-add-mod' a b) (f tt))
    go false true f g i j = subst (λ (n : ℕ). HalfUnit a b n) (up a b (i tt)) (more a b (a / b) (a % b) (a / b * b) (next (a / b) b) (div-add-mod' a b) (mod-lt a h) (i tt))
    go false false f g i j = subst (λ (n : ℕ). HalfUnit a b n) (tied a b (j tt) (g tt)) (half a b (a / b) (a % b) (a / b * b) refl (next (a / b) b) (div-add-mod' a b) (same (j tt) (g tt)))
      where
        same : a % b * 2 ≤ b → b ≤ a % b * 2 → a % b * 2 ≡ b
        same p q = omega arith

-- two of them: the larger is at most one more, and then both are even
apart : (a b n m : ℕ) → 0 < b → HalfUnit a b n → HalfUnit a b m → n < m → ⊥
apart a b n m h p q l = go (ltb (n + 1) m) (ltb→lt (n + 1) m) (nltb→le (n + 1) m)
  where
    far : (v w : ℕ) → 0 < b → w + b + b ≤ v → 2 * v ≤ 2 * a + b → 2 * a ≤ 2 * w + b → ⊥
    far v w h y s t = omega arith

    level : (v w : ℕ) → w + b ≡ v → 2 * v ≤ 2 * a + b → 2 * a ≤ 2 * w + b → (2 * v ≡ 2 * a + b) × (2 * a ≡ 2 * w + b)
    level v w e s t = (omega arith, omega arith)

    even : (n : ℕ) → n % 2 ≡ 0 → (n + 1) % 2 ≡ 0 → ⊥
    even n x y = omega arith

    two : n * b + b + b ≡ (n + 1 + 1) * b
    two = ap (λ (k : ℕ). k + b) (next n b) ∙ next (n + 1) b

    go : (x : Bool) → (T x → n + 1 < m) → (T (not x) → m ≤ n + 1) → ⊥
    go true f g = far (m * b) (n * b) h (subst (λ (k : ℕ). k ≤ m * b) (sym two) (mul-le-mul_right b (over (f tt)))) q.above p.below
      where
        over : n + 1 < m → n + 1 + 1 ≤ m
        over k = omega arith
    go false f g =
        let e : n + 1 ≡ m = one l (g tt) in
        let t = level (m * b) (n * b) (next n b ∙ ap (λ (k : ℕ). k * b) e) q.above p.below in
        even n (p.tie_down t.1) (subst (λ (k : ℕ). k % 2 ≡ 0) (sym e) (q.tie_up t.0))
      where
        one : n < m → m ≤ n + 1 → n + 1 ≡ m
        one x y = omega arith

pub only : (a b n m : ℕ) → 0 < b → HalfUnit a b n → HalfUnit a b m → n ≡ m
only a b n m h p q = go (ltb n m) (ltb m n) (ltb→lt n m) (nltb→le n m) (ltb→lt m n) (nltb→le m n)
  where
    go : (x y : Bool) → (T x → n < m) → (T (not x) → m ≤ n) → (T y → m < n) → (T (not y) → n ≤ m) → n ≡ m
    go true y f g i j = absurd (apart a b n m h p q (f tt))
    go false true f g i j = absurd (apart a b m n h q p (i tt))
    go false false f g i j = same (g tt) (j tt)
      where
        same : m ≤ n → n ≤ m → n ≡ m
        same x y = omega arith
