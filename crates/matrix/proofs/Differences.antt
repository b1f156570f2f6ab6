-- A signed number as a difference of two natural numbers: sums and products of differences, without signs.
-- Assumes nothing.
use mathlib.Core.Path.{◌≡◌, refl, sym, ap, ◌∙◌}
use mathlib.Core.Bool.{Bool, true, false, cond}
use Prim.Native.Nat.{ℕ, zero, suc, ◌+◌, ◌-◌, ◌*◌}
use native.Mathlib.Nat.{mul-add, mul_comm}
use native.Mathlib.Omega.{arith}
use lib.Dec.{ltb}
use lib.IntN.{ℤ, pos, negsuc, neg_ℤ, sub_ℕ, ◌+ℤ◌, ◌*ℤ◌, *ℤ_comm}
use borrow.Author.Tests.{ltb-true, ltb-false}

abbrev pub Apart : ℤ → ℕ → ℕ → Type 0
Apart (pos n) p q = n + q ≡ p
Apart (negsuc n) p q = suc n + p ≡ q

-- z is p - q
pub record Differs (z : ℤ) (p q : ℕ) : Type 0 where
  pub apart : Apart z p q

pub of_sub : (a b : ℕ) {p q : ℕ} → a + q ≡ p + b → Differs (sub_ℕ a b) p q
of_sub a b {p} {q} h = go (ltb a b) refl
  where
    go : (t : Bool) → ltb a b ≡ t → Differs (cond t (negsuc (b - suc a)) (pos (a - b))) p q
    go true e = record { apart = omega (arith, ltb-true a b e) }
    go false e = record { apart = omega (arith, ltb-false a b e) }

pub of_neg : (n : ℕ) {p q : ℕ} → n + p ≡ q → Differs (neg_ℤ (pos n)) p q
of_neg zero h = record { apart = omega arith }
of_neg (suc n) h = record { apart = h }

pub plus : {y z : ℤ} {p q r s : ℕ} → Differs y p q → Differs z r s → Differs (y +ℤ z) (p + r) (q + s)
plus {y = pos a} {z = pos b} h k = record { apart = omega arith }
plus {y = pos a} {z = negsuc b} h k = of_sub a (suc b) (omega arith)
plus {y = negsuc a} {z = pos b} h k = of_sub b (suc a) (omega arith)
plus {y = negsuc a} {z = negsuc b} h k = record { apart = omega arith }

pub times : (x : ℕ) {z : ℤ} {p q : ℕ} → Differs z p q → Differs (pos x *ℤ z) (x * p) (x * q)
times x {z = pos n} h = record { apart = sym (mul-add x n _) ∙ ap (λ (m : ℕ). x * m) h.apart }
times x {z = negsuc n} h = of_neg (x * suc n) (sym (mul-add x (suc n) _) ∙ ap (λ (m : ℕ). x * m) h.apart)

pub scaled : (x : ℕ) {z : ℤ} {p q : ℕ} → Differs z p q → Differs (z *ℤ pos x) (p * x) (q * x)
scaled x {z} {p} {q} h = rw (*ℤ_comm z (pos x), mul_comm p x, mul_comm q x) (times x h)
