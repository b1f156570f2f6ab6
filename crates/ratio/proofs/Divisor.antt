-- The laws of the divisor that Euclid's rule finds: it is the greatest, and by it a fraction is brought to lowest terms. Assumes nothing.
use mathlib.Core.Path.{◌≡◌, refl, sym, ap, ◌∙◌, subst}
use Prim.Native.Nat.{ℕ, zero, suc, ◌+◌, ◌*◌, ◌/◌, ◌%◌, ◌<◌, ◌≤◌, ◌∣◌}
use native.Mathlib.Nat.{dvd_refl, dvd-zero, dvd-mod_iff, dvd-add_iff_right, dvd-mul_right_of_dvd, dvd_of_mul-dvd-mul_left}
use native.Mathlib.Nat.{eq-one_of_dvd-one, mul-dvd-mul_left, pos_of_dvd_of_pos}
use native.Mathlib.Nat.{mod-lt, div-add-mod, mul-div_cancel', mul-add, mul_assoc, mul_left_comm, mul-one, zero-lt-suc, not-suc-le-zero, le_refl}
use native.Mathlib.Omega.{arith}
use Rattle.ratio.specs.Lowest.{Lowest}
use Rattle.ratio.specs.Terms.{euclid, divisor_of}

pub gcd_zero : (a : ℕ) → divisor_of a 0 ≡ a
unfolding divisor_of euclid
gcd_zero a = refl

-- it divides both, and every common divisor divides it
pub record Greatest (g a b : ℕ) : Type 0 where
  pub left : g ∣ a
  pub right : g ∣ b
  pub most : (d : ℕ) → d ∣ a → d ∣ b → d ∣ g

great : (n a b : ℕ) → b ≤ n → Greatest (euclid n a b) a b
unfolding euclid
great zero a zero h = record { left = dvd_refl a; right = dvd-zero a; most = λ d p q. p }
great zero a (suc b) h = absurd (not-suc-le-zero h)
great (suc n) a zero h = record { left = dvd_refl a; right = dvd-zero a; most = λ d p q. p }
great (suc n) a (suc b) h =
    let l : a % suc b < suc b = mod-lt a (zero-lt-suc b) in
    let r = great n (suc b) (a % suc b) (omega arith) in
    record {
      left = (dvd-mod_iff _ r.left).0 r.right;
      right = r.left;
      most = λ d p q. r.most d q ((dvd-mod_iff d q).1 p);
    }

pub greatest : (a b : ℕ) → Greatest (divisor_of a b) a b
unfolding divisor_of
greatest a b = great b a b (le_refl b)

pub some : (a b : ℕ) → 0 < b → 0 < divisor_of a b
some a b h = pos_of_dvd_of_pos (greatest a b).right h

-- what divides m times both divides m times the divisor
scaled : (n d m a b : ℕ) → b ≤ n → d ∣ m * a → d ∣ m * b → d ∣ m * euclid n a b
unfolding euclid
scaled zero d m a zero h p q = p
scaled zero d m a (suc b) h p q = absurd (not-suc-le-zero h)
scaled (suc n) d m a zero h p q = p
scaled (suc n) d m a (suc b) h p q =
    let l : a % suc b < suc b = mod-lt a (zero-lt-suc b) in
    let e : m * a ≡ m * suc b * (a / suc b) + m * (a % suc b) =
    ap (λ (x : ℕ). m * x) (sym (div-add-mod a (suc b))) ∙ mul-add m (suc b * (a / suc b)) (a % suc b)
    ∙ ap (λ (x : ℕ). x + m * (a % suc b)) (sym (mul_assoc m (suc b) (a / suc b))) in
    let s : d ∣ m * suc b * (a / suc b) + m * (a % suc b) = subst (λ (x : ℕ). d ∣ x) e p in
    scaled n d m (suc b) (a % suc b) (omega arith) q ((dvd-add_iff_right d (dvd-mul_right_of_dvd d q (a / suc b))).1 s)

pub divides_scaled : (d m a b : ℕ) → d ∣ m * a → d ∣ m * b → d ∣ m * divisor_of a b
unfolding divisor_of
divides_scaled d m a b = scaled b d m a b (le_refl b)

-- the fraction is brought to lowest terms
pub in_lowest : (num den : ℕ) → 0 < den → Lowest num den (num / divisor_of num den) (den / divisor_of num den)
in_lowest num den h =
    let g : ℕ = divisor_of num den in
    let u : ℕ = num / g in
    let v : ℕ = den / g in
    let pos : 0 < g = some num den h in
    let nu : g * u ≡ num = mul-div_cancel' g (greatest num den).left in
    let nv : g * v ≡ den = mul-div_cancel' g (greatest num den).right in
    record {
      same = ap (λ (x : ℕ). x * v) (sym nu) ∙ mul_assoc g u v ∙ mul_left_comm g u v ∙ ap (λ (x : ℕ). u * x) nv;
      lowest = λ d p q. eq-one_of_dvd-one
          (dvd_of_mul-dvd-mul_left d pos
          (subst (λ (x : ℕ). g * d ∣ x) (sym (mul-one g))
          ((greatest num den).most (g * d) (subst (λ (x : ℕ). g * d ∣ x) nu (mul-dvd-mul_left d g p)) (subst (λ (x : ℕ). g * d ∣ x) nv (mul-dvd-mul_left d g q)))));
    }
