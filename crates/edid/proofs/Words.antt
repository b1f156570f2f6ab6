-- Answers as the bits of a number: how large it is, one answer more in front, and each bit. Assumes nothing.
use mathlib.Core.Path.{◌≡◌, refl}
use mathlib.Core.Bool.{Bool, cond}
use Prim.Native.Nat.{ℕ, zero, suc, ◌+◌, ◌-◌, ◌*◌, ◌/◌, ◌%◌, ◌^◌, ◌<◌, ◌≤◌}
use native.Mathlib.Omega.{arith}
use native.Mathlib.Nat.{add_comm, two-pow-succ}
use Rattle.bits.specs.Merge.{bit}
use Rattle.edid.specs.Found.{word_of}

abbrev one : Bool → ℕ
one b = cond b 1 0

-- zero has no bit
pub no_bit : (k : ℕ) → bit k 0 ≡ 0
no_bit zero = refl
no_bit (suc k) = no_bit k

-- room for one answer more
pub room : (n to word b : ℕ) → 0 < n → n ≤ to → word < 2 ^ (to - n) → b ≤ 1 → 2 * word + b < 2 ^ (to - (n - 1))
room n to word b h k w s =
    let m : to - (n - 1) ≡ suc (to - n) = omega arith in
    rw m (omega (arith, two-pow-succ (to - n)))

module _ (f : ℕ → Bool) where
  -- one answer more in front
  pub more : (n to word : ℕ) → 0 < n → n ≤ to → word ≡ word_of f n (to - n) → 2 * word + cond (f (n - 1)) 1 0 ≡ word_of f (n - 1) (to - (n - 1))
  more n to word h k e =
      let m : to - (n - 1) ≡ suc (to - n) = omega arith in
      let a : suc (n - 1) ≡ n = omega arith in
      rw (m, a, e, add_comm (cond (f (n - 1)) 1 0) (2 * word_of f n (to - n)))

  -- bit by bit
  lowest : (b : Bool) (w : ℕ) → (one b + 2 * w) % 2 ≡ one b
  lowest b w = grind arith

  others : (b : Bool) (w : ℕ) → (one b + 2 * w) / 2 ≡ w
  others b w = grind arith

  pub each_bit : (from n k : ℕ) → k < n → bit k (word_of f from n) ≡ cond (f (from + k)) 1 0
  each_bit from zero k h = absurd (omega arith)
  each_bit from (suc n) zero h = let e : from + 0 ≡ from = omega arith in rw (lowest (f from) (word_of f (suc from) n), e)
  each_bit from (suc n) (suc k) h =
      let e : suc from + k ≡ from + suc k = omega arith in
      rw (others (f from) (word_of f (suc from) n), each_bit (suc from) n k (omega arith), e)

  -- past the last
  pub past : (from n k : ℕ) → n ≤ k → bit k (word_of f from n) ≡ 0
  past from zero k h = no_bit k
  past from (suc n) zero h = absurd (omega arith)
  past from (suc n) (suc k) h = rw (others (f from) (word_of f (suc from) n)) (past (suc from) n k (omega arith))
