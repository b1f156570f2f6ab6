-- A field of a number, bits s to s + k - 1, is the same in two numbers whose bits there are the same. Assumes nothing.
use mathlib.Core.Path.{◌≡◌, sym, ap, ap₂, ◌∙◌}
use Prim.Native.Nat.{ℕ, zero, suc, ◌+◌, ◌*◌, ◌/◌, ◌%◌, ◌^◌, ◌<◌, suc-le-suc}
use native.Mathlib.Nat.{mod_def, mul-div-le, mul_assoc, div-div-eq-div-mul, div-one, pow-succ', add-zero, add-suc}
use native.Mathlib.Omega.{arith}
use Rattle.bits.specs.Merge.{bit}

half_div : (k x : ℕ) → x / 2 / 2 ^ k ≡ x / 2 ^ suc k
half_div k x = div-div-eq-div-mul x 2 (2 ^ k) ∙ ap (λ (n : ℕ). x / n) (sym (pow-succ' 2 k))

half_mod : (k x : ℕ) → x % 2 ^ suc k ≡ x % 2 + 2 * (x / 2 % 2 ^ k)
half_mod k x =
    let q : ℕ = x / 2 / 2 ^ k in
    let e : 2 ^ suc k * (x / 2 ^ suc k) ≡ 2 * (2 ^ k * q) = ap₂ (λ (m n : ℕ). m * n) (pow-succ' 2 k) (sym (half_div k x)) ∙ mul_assoc 2 (2 ^ k) q in
    omega (arith, mod_def x (2 ^ suc k), mod_def (x / 2) (2 ^ k), e, mul-div-le (x / 2) (2 ^ k))

pub low_same : (k x y : ℕ) → ((j : ℕ) → j < k → bit j x ≡ bit j y) → x % 2 ^ k ≡ y % 2 ^ k
low_same zero x y f = omega arith
low_same (suc k) x y f =
    half_mod k x ∙ ap₂ (λ (m n : ℕ). m + 2 * n) (f 0 (omega arith)) (low_same k (x / 2) (y / 2) (λ j h. f (suc j) (suc-le-suc h))) ∙ sym (half_mod k y)

bit_shift : (s j x : ℕ) → bit (j + s) x ≡ bit j (x / 2 ^ s)
bit_shift zero j x = rw (div-one, add-zero)
bit_shift (suc s) j x = rw add-suc (bit_shift s j (x / 2) ∙ ap (λ (n : ℕ). bit j n) (half_div s x))

pub field_same : (s k x y : ℕ) → ((j : ℕ) → j < k → bit (j + s) x ≡ bit (j + s) y) → x / 2 ^ s % 2 ^ k ≡ y / 2 ^ s % 2 ^ k
field_same s k x y f = low_same k (x / 2 ^ s) (y / 2 ^ s) (λ j h. sym (bit_shift s j x) ∙ f j h ∙ bit_shift s j y)
