-- The laws of `merge`, over any number of bits. Assumes nothing.
use mathlib.Core.Path.{◌≡◌, refl, sym, ap, ap₂, ◌∙◌}
use mathlib.Core.Bool.{Bool, true, false, cond}
use mathlib.Core.List.{[], ◌∷◌}
use Prim.Native.Nat.{ℕ, zero, suc, ◌+◌, ◌*◌, ◌/◌, ◌%◌, ◌-◌, ◌^◌, min, max, ◌<◌}
use native.Mathlib.Nat.{not-suc-le-zero, le_of_suc-le-suc, div-one, div-div-eq-div-mul, pow-suc, pow-succ'}
use native.Mathlib.Omega.{arith}
use lib.Dec.{eqb}
use borrow.Author.Tests.{eqb-true, eqb-false}
use lib.Bits.{bit_and, bit_or, and_step, or_step, and_zero_r}
use Rattle.bits.specs.Merge.{merge, bit}
use Rattle.bits.proofs.Truth.{var, by, law, low, high}

-- what a merge hides does not count, whichever side it stands on
pub merge_left : (k m a b c : ℕ) → merge k m (merge k m a b) c ≡ merge k m a c
merge_left k m a b c = law (by (var 0) (by (var 0) (var 1) (var 2)) (var 3)) (by (var 0) (var 1) (var 3)) k (m ∷ a ∷ b ∷ c ∷ []) refl

pub merge_right : (k m a b c : ℕ) → merge k m a (merge k m b c) ≡ merge k m a c
merge_right k m a b c = law (by (var 0) (var 1) (by (var 0) (var 2) (var 3))) (by (var 0) (var 1) (var 3)) k (m ∷ a ∷ b ∷ c ∷ []) refl

-- a merge of k bits has k bits
pub merge_small : (k m a b : ℕ) → merge k m a b < 2 ^ k
unfolding merge
merge_small zero m a b = omega arith
merge_small (suc k) m a b = go (eqb (m % 2) 1) (merge k (m / 2) (a / 2) (b / 2)) (merge_small k (m / 2) (a / 2) (b / 2))
  where
    go : (c : Bool) (q : ℕ) → q < 2 ^ k → cond c (a % 2) (b % 2) + 2 * q < 2 ^ suc k
    go true q h = let p : 2 ^ suc k ≡ 2 * 2 ^ k = pow-succ' 2 k in omega arith
    go false q h = let p : 2 ^ suc k ≡ 2 * 2 ^ k = pow-succ' 2 k in omega arith

-- bit j of a merge is bit j of one of the two
pub merge_bit : (k j m a b : ℕ) → j < k → bit j (merge k m a b) ≡ cond (eqb (bit j m) 1) (bit j a) (bit j b)
unfolding merge
merge_bit zero j m a b h = absurd (not-suc-le-zero h)
merge_bit (suc k) zero m a b h = low (eqb (m % 2) 1) a b _
merge_bit (suc k) (suc j) m a b h = ap (λ (n : ℕ). bit j n) (high (eqb (m % 2) 1) a b _) ∙ merge_bit k j (m / 2) (a / 2) (b / 2) (le_of_suc-le-suc h)

-- a bit as code has it, by its mask, and two bits side by side
pub bit_code : (j n : ℕ) → bit j n ≡ n / 2 ^ j % 2
bit_code zero n = ap (λ (m : ℕ). m % 2) (sym (div-one n))
bit_code (suc j) n = bit_code j (n / 2) ∙ ap (λ (m : ℕ). m % 2) (div-div-eq-div-mul n 2 (2 ^ j) ∙ ap (λ (m : ℕ). n / m) (sym (pow-succ' 2 j)))

pub two_bits_code : (j n : ℕ) → bit j n + 2 * bit (suc j) n ≡ n / 2 ^ j % 4
two_bits_code j n =
    let q : ℕ = n / 2 ^ j in
    let h : n / 2 ^ suc j ≡ q / 2 = ap (λ (m : ℕ). n / m) (pow-suc 2 j) ∙ sym (div-div-eq-div-mul n (2 ^ j) 2) in
    ap₂ (λ (a b : ℕ). a + 2 * b) (bit_code j n) (bit_code (suc j) n ∙ ap (λ (m : ℕ). m % 2) h) ∙ digits q
  where
    digits : (q : ℕ) → q % 2 + 2 * (q / 2 % 2) ≡ q % 4
    digits q = omega arith

-- the merge as code has it: `(a & m) | (b & !m)`
half_of : (q d : ℕ) → d < 2 → (q * 2 + d) / 2 ≡ q
half_of q d h = omega arith

low_of : (q d : ℕ) → d < 2 → (q * 2 + d) % 2 ≡ d
low_of q d h = omega arith

and_half : (a m : ℕ) → bit_and a m / 2 ≡ bit_and (a / 2) (m / 2)
and_half a m = ap (λ (n : ℕ). n / 2) (and_step a m) ∙ half_of _ (min (a % 2) (m % 2)) (omega arith)

and_low : (a m : ℕ) → bit_and a m % 2 ≡ min (a % 2) (m % 2)
and_low a m = ap (λ (n : ℕ). n % 2) (and_step a m) ∙ low_of (bit_and (a / 2) (m / 2)) (min (a % 2) (m % 2)) (omega arith)

digit : (m a b q : ℕ) → m < 2 → a < 2 → b < 2 → q * 2 + max (min a m) (min b (1 - m)) ≡ cond (eqb m 1) a b + 2 * q
digit m a b q hm ha hb = go (eqb m 1) refl
  where
    go : (r : Bool) → eqb m 1 ≡ r → q * 2 + max (min a m) (min b (1 - m)) ≡ cond r a b + 2 * q
    go true e = let z : m ≡ 1 = eqb-true m 1 e in omega arith
    go false e = let y : (m ≡ 1) → ⊥ = eqb-false m 1 e in let z : m ≡ 0 = omega arith in omega arith

pub merge_code : (k m a b : ℕ) → m < 2 ^ k → merge k m a b ≡ bit_or (bit_and a m) (bit_and b (2 ^ k - 1 - m))
unfolding merge
merge_code zero m a b h =
    let e : m ≡ 0 = omega arith in
    let e' : 2 ^ 0 - 1 - m ≡ 0 = omega arith in
    rw (e', e, and_zero_r, and_zero_r)
merge_code (suc k) m a b h =
    let N : ℕ = 2 ^ suc k - 1 - m in
    let p : 2 ^ suc k ≡ 2 * 2 ^ k = omega arith in
    let hn : N / 2 ≡ 2 ^ k - 1 - m / 2 = omega arith in
    let ln : N % 2 ≡ 1 - m % 2 = omega arith in
    let ih : merge k (m / 2) (a / 2) (b / 2) ≡ bit_or (bit_and (a / 2) (m / 2)) (bit_and (b / 2) (2 ^ k - 1 - m / 2)) = merge_code k (m / 2) (a / 2) (b / 2) (omega arith) in
    sym (or_step (bit_and a m) (bit_and b N)
    ∙ ap₂ (λ (q d : ℕ). q * 2 + d) (ap₂ bit_or (and_half a m) (and_half b N ∙ ap (bit_and (b / 2)) hn) ∙ sym ih) (ap₂ max (and_low a m) (and_low b N ∙ ap (min (b % 2)) ln))
    ∙ digit (m % 2) (a % 2) (b % 2) (merge k (m / 2) (a / 2) (b / 2)) (omega arith) (omega arith) (omega arith))
