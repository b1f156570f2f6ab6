-- The laws by which halving and subtraction find the greatest common divisor. Assumes nothing.
use mathlib.Core.Path.{◌≡◌, sym, ap, ◌∙◌, subst}
use mathlib.Core.Logic.{◌≢◌}
use Prim.Native.Nat.{ℕ, ◌+◌, ◌-◌, ◌*◌, ◌/◌, ◌%◌, ◌<◌, ◌≤◌, ◌∣◌}
use native.Mathlib.Nat.{dvd_antisymm, dvd_trans, dvd-mul_left_of_dvd, dvd-mul_right, dvd-add_iff_right, dvd-sub_iff_left}
use native.Mathlib.Nat.{mod-eq-zero_of_dvd, dvd_of_mod-eq-zero, eq_of_mul-eq-mul_left}
use native.Mathlib.Nat.{mul_assoc, mul_comm, mul_left_comm, mul_right_comm, add-mul, one-mul}
use native.Mathlib.Omega.{arith}
use Rattle.ratio.specs.Lowest.{Lowest}
use Rattle.ratio.specs.Terms.{divisor_of}
use Rattle.ratio.proofs.Divisor.{Greatest, greatest, gcd_zero}

-- there is one greatest common divisor, and the order of the two does not matter
only : (g a b : ℕ) → Greatest g a b → g ≡ divisor_of a b
only g a b h =
    let e = greatest a b in
    dvd_antisymm (e.most g h.left h.right) (h.most (divisor_of a b) e.left e.right)

pub turned : (a b : ℕ) → divisor_of a b ≡ divisor_of b a
turned a b = let e = greatest a b in only _ b a (record { left = e.right; right = e.left; most = λ d p q. e.most d q p })

pub of_zero : (b : ℕ) → divisor_of 0 b ≡ b
of_zero b = turned 0 b ∙ gcd_zero b

-- two pairs with the same common divisors have the same greatest
same : (a b x y : ℕ) → ((d : ℕ) → d ∣ a → d ∣ b → (d ∣ x) × (d ∣ y)) → ((d : ℕ) → d ∣ x → d ∣ y → (d ∣ a) × (d ∣ b))
    → divisor_of a b ≡ divisor_of x y
same a b x y to from =
    let e = greatest a b in
    let s = to _ e.left e.right in
    only _ x y (record { left = s.0; right = s.1; most = λ d p q. let t = from d p q in e.most d t.0 t.1 })

-- what divides an odd number is odd
odd_part : (d b : ℕ) → b % 2 ≡ 1 → d ∣ b → d % 2 ≡ 1
odd_part d b odd p =
    let n : d % 2 ≢ 0 = λ e. let z = mod-eq-zero_of_dvd 2 (dvd_trans 2 (dvd_of_mod-eq-zero 2 e) p) in omega arith in
    omega (arith, n)

-- and divides x, where it divides twice x: (d/2 + 1)·2x is d·x + x
doubled : (d b x : ℕ) → b % 2 ≡ 1 → d ∣ b → d ∣ 2 * x → d ∣ x
doubled d b x odd p q =
    let h : (d / 2 + 1) * 2 ≡ d + 1 = omega (arith, odd_part d b odd p) in
    let e : (d / 2 + 1) * (2 * x) ≡ d * x + x =
    sym (mul_assoc (d / 2 + 1) 2 x) ∙ ap (λ (m : ℕ). m * x) h ∙ add-mul d 1 x ∙ ap (λ (m : ℕ). d * x + m) (one-mul x) in
    (dvd-add_iff_right d (dvd-mul_right d x)).1 (subst (λ (m : ℕ). d ∣ m) e (dvd-mul_left_of_dvd d q (d / 2 + 1)))

-- a half has the same divisors in common with an odd number
pub halved : (a b : ℕ) → a % 2 ≡ 0 → b % 2 ≡ 1 → divisor_of (a / 2) b ≡ divisor_of a b
halved a b even odd =
    let e : 2 * (a / 2) ≡ a = omega arith in
    same (a / 2) b a b
    (λ d p q. (subst (λ (m : ℕ). d ∣ m) e (dvd-mul_left_of_dvd d p 2), q))
    (λ d p q. (doubled d b (a / 2) odd q (subst (λ (m : ℕ). d ∣ m) (sym e) p), q))

-- and so has a difference
less : (a b : ℕ) → b ≤ a → divisor_of (a - b) b ≡ divisor_of a b
less a b h = same (a - b) b a b (λ d p q. ((dvd-sub_iff_left d h q).0 p, q)) (λ d p q. ((dvd-sub_iff_left d h q).1 p, q))

-- of two odd numbers, half the difference
pub half_less : (a b : ℕ) → b ≤ a → a % 2 ≡ 1 → b % 2 ≡ 1 → divisor_of ((a - b) / 2) b ≡ divisor_of a b
half_less a b h odd-a odd-b = halved (a - b) b (omega arith) odd-b ∙ less a b h

-- both numbers of a fraction halved: it is the same fraction, and has the same lowest terms
pub both_halved : (a b num den : ℕ) → a % 2 ≡ 0 → b % 2 ≡ 0 → a * den ≡ num * b → a / 2 * den ≡ num * (b / 2)
both_halved a b num den even-a even-b h =
    let ea : 2 * (a / 2) ≡ a = omega arith in
    let eb : 2 * (b / 2) ≡ b = omega arith in
    eq_of_mul-eq-mul_left 2 (omega arith) (a / 2 * den) (num * (b / 2))
    (sym (mul_assoc 2 (a / 2) den) ∙ ap (λ (x : ℕ). x * den) ea ∙ h ∙ ap (λ (x : ℕ). num * x) (sym eb) ∙ mul_left_comm num 2 (b / 2))

pub carried : (a b num den u v : ℕ) → 0 < b → a * den ≡ num * b → Lowest a b u v → Lowest num den u v
carried a b num den u v some h l =
    record {
      same = eq_of_mul-eq-mul_left b some (num * v) (u * den)
          (sym (mul_assoc b num v) ∙ ap (λ (x : ℕ). x * v) (mul_comm b num ∙ sym h) ∙ mul_right_comm a den v
          ∙ ap (λ (x : ℕ). x * den) (l.same ∙ mul_comm u b) ∙ mul_assoc b u den);
      lowest = l.lowest;
    }
