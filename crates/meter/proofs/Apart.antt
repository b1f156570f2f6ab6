-- A finite float taken apart by its bits is that float, exactly. Assumes nothing.
use mathlib.Core.Path.{◌≡◌, refl, sym, subst}
use Prim.Native.Nat.{ℕ, zero, suc, ◌+◌, ◌*◌, ◌/◌, ◌%◌, ◌^◌}
use mathlib.Core.Bool.{Bool, true, false, cond, true≢false}
use lib.Dec.{T, leb, eqb}
use lib.Ieee.{Float, nan, inf, fin, binary32, fits, odd, of_fields, of_bits, to_bits, is_nan}
use lib.Ieee.Bits.{of_bits-to_bits}
use lib.Ieee.Exact.{HasValue, odd_sign}
use lib.Ieee.Scale.{finite}

-- ---- by an exponent's field
Apart : Bool → ℕ → ℕ → Float → Type 0
Apart s zero t x = HasValue x s (t * 2 ^ 0) (2 ^ 149)
Apart s (suc k) t x = HasValue x s ((8388608 + t) * 2 ^ k) (2 ^ 149)

fields : (s : Bool) (k t : ℕ) → finite (of_fields binary32 s k t) ≡ true → Apart s k t (of_fields binary32 s k t)
unfolding Apart of_fields
fields s zero t h = odd_sign 24 s t 0 149
fields s (suc k) t h = go (eqb (suc k) 255) (eqb t 0) h
  where
    go : (a b : Bool) → finite (cond a (cond b (inf s) nan) (odd 24 s (8388608 + t) k 149)) ≡ true
        → HasValue (cond a (cond b (inf s) nan) (odd 24 s (8388608 + t) k 149)) s ((8388608 + t) * 2 ^ k) (2 ^ 149)
    go true true e = absurd (true≢false (sym e))
    go true false e = absurd (true≢false (sym e))
    go false b e = odd_sign 24 s (8388608 + t) k 149

apart : (x : Float) → T (fits binary32 x) → finite x ≡ true
    → Apart (leb 2147483648 (to_bits binary32 x)) (to_bits binary32 x % 2147483648 / 8388608) (to_bits binary32 x % 8388608) x
unfolding of_bits
apart x f h =
    let b = to_bits binary32 x in
    let e : of_bits binary32 b ≡ x = of_bits-to_bits binary32 x f in
    subst (λ (y : Float). Apart (leb 2147483648 b) (b % 2147483648 / 8388608) (b % 8388608) y) e
    (fields (leb 2147483648 b) (b % 2147483648 / 8388608) (b % 8388608) (subst (λ (y : Float). finite y ≡ true) (sym e) h))

pub least : (x : Float) → T (fits binary32 x) → finite x ≡ true → to_bits binary32 x % 2147483648 / 8388608 ≡ 0
    → HasValue x (leb 2147483648 (to_bits binary32 x)) (to_bits binary32 x % 8388608 * 2 ^ 0) (2 ^ 149)
unfolding Apart
least x f h z = subst (λ (k : ℕ). Apart (leb 2147483648 (to_bits binary32 x)) k (to_bits binary32 x % 8388608) x) z (apart x f h)

pub normal : (x : Float) → T (fits binary32 x) → finite x ≡ true → (k : ℕ) → to_bits binary32 x % 2147483648 / 8388608 ≡ suc k
    → HasValue x (leb 2147483648 (to_bits binary32 x)) ((8388608 + to_bits binary32 x % 8388608) * 2 ^ k) (2 ^ 149)
unfolding Apart
normal x f h k z = subst (λ (k : ℕ). Apart (leb 2147483648 (to_bits binary32 x)) k (to_bits binary32 x % 8388608) x) z (apart x f h)

pub no_nan : (x : Float) → finite x ≡ true → is_nan x ≡ false
unfolding is_nan
no_nan nan h = absurd (true≢false (sym h))
no_nan (inf s) h = refl
no_nan (fin s m e) h = refl
