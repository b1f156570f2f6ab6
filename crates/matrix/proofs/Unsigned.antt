-- The preview without signs: a field is raised by 4096, and what that adds is taken away at the end.
-- Assumes nothing.
use mathlib.Core.Path.{◌≡◌, refl, sym, ◌∙◌}
use mathlib.Core.Bool.{Bool, true, false, cond}
use Prim.Native.Nat.{ℕ, ◌+◌, ◌-◌, ◌*◌, ◌/◌, ◌%◌, ◌^◌, ◌<◌, ◌≤◌, min}
use native.Mathlib.Nat.{mod-eq_of_lt, mul-sub, mul_comm, le_trans, mul-le-mul_left, mul-le-mul_right}
use native.Mathlib.Omega.{arith}
use lib.Dec.{ltb}
use lib.Pow.{pow_mono}
use lib.IntN.{ℤ, pos, negsuc, sub_ℕ}
use lib.Signed.{shr_z}
use borrow.Author.Tests.{ltb-true, ltb-false}
use Rattle.matrix.specs.Coefficient.{value_of}
use Rattle.matrix.specs.Preview.{held_within, code_of}
use Rattle.matrix.proofs.Differences.{Differs, of_sub, plus, times, scaled}

abbrev pub raised : ℕ → ℕ
raised f = (f + 4096) % 8192

value : {f : ℕ} → f < 8192 → Differs (value_of f) (raised f) 4096
value {f} h = go (ltb f 4096) refl
  where
    go : (t : Bool) → ltb f 4096 ≡ t → Differs (cond t (pos f) (sub_ℕ f 8192)) (raised f) 4096
    go true e = record { apart = omega (arith, ltb-true f 4096 e) }
    go false e = of_sub f 8192 (omega (arith, ltb-false f 4096 e))

rounded : {z : ℤ} {p q : ℕ} → Differs z p q → held_within (shr_z z 4096) ≡ min ((p - q) / 4096) 4095
rounded {z = pos n} {p} {q} h = let e : p - q ≡ n = omega arith in rw e
rounded {z = negsuc n} {p} {q} h = let e : p - q ≡ 0 = omega arith in rw e

less : (p q n : ℕ) → p * n - q * n ≡ (p - q) * n
less p q n = rw (mul_comm (p - q) n, mul_comm p n, mul_comm q n) (sym (mul-sub n p q))

-- the code, with signs and without
pub unsigned : (a b c : ℕ) {k1 k2 k3 k4 : ℕ} (mode : ℕ) → k1 < 8192 → k2 < 8192 → k3 < 8192 → k4 < 8192
    → code_of a b c k1 k2 k3 k4 mode
    ≡ min ((a * raised k1 + b * raised k2 + c * raised k3 + raised k4 * 4096 - (a + b + c + 4096) * 4096) * 2 ^ mode / 4096) 4095
unfolding code_of
unsigned a b c mode h1 h2 h3 h4 =
    let e : a * 4096 + b * 4096 + c * 4096 + 4096 * 4096 ≡ (a + b + c + 4096) * 4096 = omega arith in
    rounded (scaled (2 ^ mode) (plus (plus (plus (times a (value h1)) (times b (value h2))) (times c (value h3))) (scaled 4096 (value h4))))
    ∙ rw (less, e)

pub product : (x y m n : ℕ) → x ≤ m → y ≤ n → x * y ≤ m * n
product x y m n h k = le_trans (mul-le-mul_right y h) (mul-le-mul_left m k)

power_small : (mode : ℕ) → mode ≤ 2 → 2 ^ mode ≤ 4
power_small mode h = pow_mono h

-- a shift that loses nothing
pub shifted : (x mode : ℕ) → x ≤ 2 ^ 27 → mode ≤ 2 → x * 2 ^ mode % 2 ^ 64 ≡ x * 2 ^ mode
shifted x mode h k = mod-eq_of_lt (omega (arith, product x (2 ^ mode) (2 ^ 27) 4 h (power_small mode k)))
