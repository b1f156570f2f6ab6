-- A float's digits, shifted and rounded, are its fraction, scaled and rounded. Assumes nothing.
use mathlib.Core.Path.{◌≡◌, sym, ap, ◌∙◌, subst}
use mathlib.Core.Logic.{inl, inr}
use Prim.Native.Nat.{ℕ, ◌+◌, ◌-◌, ◌*◌, ◌/◌, ◌%◌, ◌^◌, ◌≤◌, ◌<◌, compare}
use native.Mathlib.Nat.{le_trans, le_of_eq, mul_assoc, mul_comm, mul_left_comm, mul-pos, mul-le-mul_right, le-div_iff_mul-le}
use native.Mathlib.Omega.{arith}
use mathlib.Core.Bool.{Bool, true, false}
use borrow.Author.Tests.{lt-leb}
use lib.Pow.{pow-add, pow_pos, pow_mono}
use lib.Ieee.{Float, nan, inf, fin}
use lib.Ieee.Exact.{HasValue}
use lib.Ieee.Positive.{num, den, den_pos}
use lib.Ieee.Nearest.{closest, closest_same, nearest-ge}
use Rattle.meter.specs.Found.{negative, signed_field, Normal}

-- ---- what `HasValue` says, as an equation of numbers and a sign
pub size : (x : Float) (s : Bool) (a c : ℕ) → HasValue x s a c → num x * c ≡ a * den x
size nan s a c h = absurd h
size (inf t) s a c h = absurd h
size (fin t m e) s a c h = h.1

pub sign : (x : Float) (s : Bool) (a c : ℕ) → HasValue x s a c → negative x ≡ s
sign nan s a c h = absurd h
sign (inf t) s a c h = absurd h
sign (fin t m e) s a c h = h.0

-- (num · 2^r) · 2^(149 + m) and (q · 2^(k + r)) · (den · 2^m)
crossed : (n d q k r m : ℕ) → n * 2 ^ 149 ≡ q * 2 ^ k * d → n * 2 ^ r * 2 ^ (149 + m) ≡ q * 2 ^ (k + r) * (d * 2 ^ m)
crossed n d q k r m h =
    ap (λ (p : ℕ). n * 2 ^ r * p) (pow-add 2 149 m)
    ∙ turned n (2 ^ r) (2 ^ 149) (2 ^ m)
    ∙ ap (λ (p : ℕ). p * (2 ^ r * 2 ^ m)) h
    ∙ back q (2 ^ k) d (2 ^ r) (2 ^ m)
    ∙ ap (λ (p : ℕ). q * p * (d * 2 ^ m)) (sym (pow-add 2 k r))
  where
    turned : (n r c m : ℕ) → n * r * (c * m) ≡ n * c * (r * m)
    turned n r c m = simp (mul_assoc, mul_comm, mul_left_comm)

    back : (q k d r m : ℕ) → q * k * d * (r * m) ≡ q * (k * r) * (d * m)
    back q k d r m = simp (mul_assoc, mul_comm, mul_left_comm)

scaled : (x : Float) (s : Bool) (q k r m : ℕ) → HasValue x s (q * 2 ^ k) (2 ^ 149)
    → closest (num x * 2 ^ r) (den x * 2 ^ m) ≡ closest (q * 2 ^ (k + r)) (2 ^ (149 + m))
scaled x s q k r m v =
    closest_same (num x * 2 ^ r) (den x * 2 ^ m) (q * 2 ^ (k + r)) (2 ^ (149 + m)) (mul-pos (den_pos x) (pow_pos m)) (pow_pos (149 + m))
    (crossed (num x) (den x) q k r m (size x s (q * 2 ^ k) (2 ^ 149) v))

-- where the unit is not below the digits' weight
pub near : (x : Float) (s : Bool) (q k r m : ℕ) → HasValue x s (q * 2 ^ k) (2 ^ 149) → k + r ≤ 149 + m
    → closest (num x * 2 ^ r) (den x * 2 ^ m) ≡ closest q (2 ^ (149 + m - (k + r)))
near x s q k r m v h =
    scaled x s q k r m v
    ∙ closest_same (q * 2 ^ (k + r)) (2 ^ (149 + m)) q (2 ^ (149 + m - (k + r))) (pow_pos (149 + m)) (pow_pos (149 + m - (k + r)))
    (mul_assoc q (2 ^ (k + r)) (2 ^ (149 + m - (k + r))) ∙ ap (λ (p : ℕ). q * p) (sym (pow-add 2 (k + r) (149 + m - (k + r))) ∙ ap (λ (e : ℕ). 2 ^ e) (sum (k + r) (149 + m) h)))
  where
    sum : (a b : ℕ) → a ≤ b → a + (b - a) ≡ b
    sum a b h = omega arith

-- where it is far below them, the number is 8192 or more
pub far : (x : Float) (s : Bool) (q k r m : ℕ) → HasValue x s (q * 2 ^ k) (2 ^ 149) → 2 ^ 23 ≤ q → 149 + m < k + r + 11
    → 8192 ≤ closest (num x * 2 ^ r) (den x * 2 ^ m)
far x s q k r m v l h =
    subst (λ (n : ℕ). 8192 ≤ n) (sym (scaled x s q k r m v))
    (le_trans ((le-div_iff_mul-le (pow_pos (149 + m))).1 wide) (nearest-ge (q * 2 ^ (k + r) / 2 ^ (149 + m)) (compare (q * 2 ^ (k + r) % 2 ^ (149 + m) * 2) (2 ^ (149 + m)))))
  where
    room : 13 + (149 + m) ≤ 23 + (k + r)
    room = omega arith

    wide : 8192 * 2 ^ (149 + m) ≤ q * 2 ^ (k + r)
    wide = le_trans (le_of_eq (sym (pow-add 2 13 (149 + m)))) (le_trans (pow_mono room) (le_trans (le_of_eq (pow-add 2 23 (k + r))) (mul-le-mul_right (2 ^ (k + r)) l)))

pub too_large : (s : Bool) (n : ℕ) → 8192 ≤ n → 8192 ≡ signed_field s n
unfolding signed_field
too_large true n h = simp (lt-leb _ _ (over h))
  where
    over : {n : ℕ} → 8192 ≤ n → 4096 < n
    over h = omega arith
too_large false n h = simp (lt-leb _ _ (over h))
  where
    over : {n : ℕ} → 8192 ≤ n → 4095 < n
    over h = omega arith

-- with such an exponent the leading digit is there
pub leads : (q k r m : ℕ) → Normal q k → r ≤ 12 → 149 + m < k + r + 11 → 2 ^ 23 ≤ q
leads q k r m n h g = elim n.leading [ inl z ↦ absurd (none z) | inr l ↦ l ]
  where
    none : k ≡ 0 → ⊥
    none z = omega arith
