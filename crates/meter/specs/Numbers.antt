-- Document 02, request 07: "twelve f32 numbers, nine factors and three offsets in 12-bit codes", and the modes in which they fit.
use Rattle.std.specs.Prelude.{◌≡◌, Bool, true, false, cond, List, [], ◌∷◌, ℕ, ◌*◌, ◌%◌, ◌^◌, ◌<◌, eqb, ℤ, pos, neg_ℤ, nat_abs, ◌*ℤ◌, get_or, Float}
use Rattle.std.specs.Float.{nan, inf, fin}
use Rattle.std.specs.Float.Ieee.{up, down}
use Rattle.matrix.specs.Coefficient.{Spans}
use Rattle.meter.specs.declared.Meter.{Meter}
use Rattle.meter.specs.Nearest.{Nearest}

-- "Each float is an exact fraction": top / bottom. A finite float is ±m·2^e, and 2^e is up e / down e (lib.Ieee). What is not finite is no
-- fraction, and 18 comes first
abbrev pub top : Float → ℤ
top nan = pos 0
top (inf s) = pos 0
top (fin s m e) = cond s (neg_ℤ (pos (m * up e))) (pos (m * up e))

abbrev pub bottom : Float → ℕ
bottom nan = 1
bottom (inf s) = 1
bottom (fin s m e) = down e

-- minus zero, of which the fraction keeps no sign
abbrev pub minus_zero : Float
minus_zero = fin true 0 (pos 0)

-- the twelve of the struct. The request names no order; we read that of a request's matrix
abbrev pub numbers_of : Meter → List Float
numbers_of m =
    m.a1 ∷ m.a2 ∷ m.a3 ∷ m.a4 ∷
    m.b1 ∷ m.b2 ∷ m.b3 ∷ m.b4 ∷
    m.c1 ∷ m.c2 ∷ m.c3 ∷ m.c4 ∷ []

-- number i of the twelve
abbrev pub number_of : List Float → ℕ → Float
number_of numbers i = get_or numbers i nan

-- A4, B4 and C4 are the offsets, the others factors
abbrev pub is_offset : ℕ → Bool
is_offset i = eqb (i % 4) 3

-- "below 2^mode in size"
abbrev pub BelowMode : ℕ → Float → Type 0
BelowMode mode x = nat_abs (top x) < 2 ^ mode * bottom x

-- "A factor's field is the whole number nearest to factor·4096/2^mode, an offset's the nearest to offset/2^mode": n is that of number i
abbrev pub Rounded : ℕ → ℕ → Float → ℤ → Type 0
Rounded mode i x n = Nearest (top x *ℤ pos (cond (is_offset i) 1 4096)) (bottom x * 2 ^ mode) n

-- a "mode in which each factor is below 2^mode in size and every rounded field fits", from -4096 to 4095 (`Spans 12`)
pub record FitsIn (numbers : List Float) (mode : ℕ) : Type 0 where
  pub factors : (i : ℕ) → i < 12 → is_offset i ≡ false → BelowMode mode (number_of numbers i)
  pub fields : (i : ℕ) → i < 12 → (n : ℤ) → Rounded mode i (number_of numbers i) n → Spans 12 n
