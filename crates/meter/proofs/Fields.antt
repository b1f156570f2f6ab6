-- A field is the rounded number where that has 13 bits, and 8192 where it has not. Assumes nothing.
use mathlib.Core.Path.{◌≡◌, refl, sym, ap, ◌∙◌, subst}
use mathlib.Core.Bool.{Bool, true, false, cond, false≢true}
use Prim.Native.Nat.{ℕ, zero, suc, ◌-◌, ◌*◌, ◌%◌, ◌^◌, ◌≤◌, ◌<◌}
use native.Mathlib.Nat.{zero-mul, mul-pos, mod-eq_of_lt}
use native.Mathlib.Omega.{arith}
use lib.Dec.{leb, ltb, lit≤}
use lib.Pow.{pow_pos}
use lib.IntN.{ℤ, pos, neg_ℤ, nat_abs, ◌*ℤ◌}
use lib.Signed.{le_z_yes}
use lib.Ieee.{Float, nan, inf, fin, up, down}
use lib.Ieee.Nearest.{closest}
use lib.Ieee.Positive.{num, den, den_pos}
use lib.Ieee.Scale.{finite}
use borrow.Author.Tests.{le-leb, leb-true, leb-false, lt-ltb}
use Rattle.lists.proofs.Decides.{Decides, less, restated, confirmed}
use Rattle.matrix.specs.Coefficient.{value_of, Spans}
use Rattle.matrix.specs.Twos.{bits_of}
use Rattle.matrix.proofs.Order.{pos_le, of_pos_le, negsuc_le, of_negsuc_le}
use Rattle.matrix.proofs.Signs.{twos}
use Rattle.meter.specs.Nearest.{Nearest}
use Rattle.meter.specs.Numbers.{top, bottom, BelowMode}
use Rattle.meter.specs.Found.{negative, is_below, signed_field, field_of, field_in, is_field}
use Rattle.meter.proofs.HalfUnit.{nearest_half}
use Rattle.meter.proofs.Whole.{signed_by, half_signed, alone}

-- ---- a float's fraction, by its sign and its size
negated : (n k : ℕ) → neg_ℤ (pos n) *ℤ pos k ≡ neg_ℤ (pos (n * k))
negated zero k = rw (zero-mul k) refl
negated (suc n) k = refl

raised : (x : Float) (k : ℕ) → top x *ℤ pos k ≡ signed_by (negative x) (num x * k)
raised nan k = refl
raised (inf s) k = refl
raised (fin false m e) k = refl
raised (fin true m e) k = negated (m * up e) k

size_neg : (n : ℕ) → nat_abs (neg_ℤ (pos n)) ≡ n
size_neg zero = refl
size_neg (suc n) = refl

size : (x : Float) → nat_abs (top x) ≡ num x
size nan = refl
size (inf s) = refl
size (fin false m e) = refl
size (fin true m e) = size_neg (m * up e)

under : (x : Float) → bottom x ≡ den x
under nan = refl
under (inf s) = refl
under (fin s m e) = refl

-- ---- thirteen bits
spans_pos : (n : ℕ) → n ≤ 4095 → Spans 12 (pos n)
spans_pos n h = record { low = le_z_yes tt; high = pos_le h }

spans_neg : (n : ℕ) → n ≤ 4096 → Spans 12 (neg_ℤ (pos n))
spans_neg zero h = record { low = le_z_yes tt; high = le_z_yes tt }
spans_neg (suc n) h = record { low = negsuc_le (omega arith); high = le_z_yes tt }

not_more : (n : ℕ) → Spans 12 (neg_ℤ (pos n)) → n ≤ 4096
not_more zero s = lit≤ tt
not_more (suc n) s = let h : n ≤ 4095 = of_negsuc_le s.low in omega arith

bits_neg : (n : ℕ) → n ≤ 4096 → (8192 - n) % 8192 ≡ bits_of 12 (neg_ℤ (pos n))
bits_neg zero h = refl
bits_neg (suc n) h = omega arith

-- it is a field exactly where the number has 13 bits, and then it stands for that number
pub fits : (s : Bool) (n : ℕ) → Decides (is_field (signed_field s n)) (Spans 12 (signed_by s n))
unfolding signed_field
fits false n = go (leb n 4095) refl
  where
    go : (b : Bool) → leb n 4095 ≡ b → Decides (ltb (cond b n 8192) 8192) (Spans 12 (pos n))
    go true e = let h = leb-true n 4095 e in
        record { passes = λ _. spans_pos n h; fails = λ f. absurd (false≢true (sym f ∙ lt-ltb n 8192 (omega arith))) }
    go false e = record { passes = λ t. absurd (false≢true t); fails = λ _ s. over (of_pos_le s.high) (leb-false n 4095 e) }
      where
        over : n ≤ 4095 → 4095 < n → ⊥
        over h k = omega arith
fits true n = go (leb n 4096) refl
  where
    go : (b : Bool) → leb n 4096 ≡ b → Decides (ltb (cond b ((8192 - n) % 8192) 8192) 8192) (Spans 12 (neg_ℤ (pos n)))
    go true e = let h = leb-true n 4096 e in
        record { passes = λ _. spans_neg n h; fails = λ f. absurd (false≢true (sym f ∙ lt-ltb ((8192 - n) % 8192) 8192 (omega arith))) }
    go false e = record { passes = λ t. absurd (false≢true t); fails = λ _ s. over (not_more n s) (leb-false n 4096 e) }
      where
        over : n ≤ 4096 → 4096 < n → ⊥
        over h k = omega arith

pub stands : (s : Bool) (n : ℕ) → Spans 12 (signed_by s n) → value_of (signed_field s n) ≡ signed_by s n
unfolding signed_field
stands false n s =
    let h : n ≤ 4095 = of_pos_le s.high in
    let e : n % 8192 ≡ n = mod-eq_of_lt (omega arith) in
    let f : signed_field false n ≡ bits_of 12 (pos n) = rw (le-leb n 4095 h) (sym e) in
    ap value_of f ∙ (twos 12).again (pos n) s
stands true n s =
    let h : n ≤ 4096 = not_more n s in
    let f : signed_field true n ≡ bits_of 12 (neg_ℤ (pos n)) = rw (le-leb n 4096 h) (bits_neg n h) in
    ap value_of f ∙ (twos 12).again (neg_ℤ (pos n)) s

-- ---- a number in a mode
abbrev scale : Bool → ℕ
scale o = cond o 1 4096

pub unit : (x : Float) (mode : ℕ) → 0 < bottom x * 2 ^ mode
unit x mode = subst (λ (d : ℕ). 0 < d * 2 ^ mode) (sym (under x)) (mul-pos (den_pos x) (pow_pos mode))

-- the rounded number
abbrev whole : ℕ → Bool → Float → ℤ
whole mode o x = signed_by (negative x) (closest (num x * scale o) (den x * 2 ^ mode))

is_nearest : (mode : ℕ) (o : Bool) (x : Float) → Nearest (top x *ℤ pos (scale o)) (bottom x * 2 ^ mode) (whole mode o x)
is_nearest mode o x =
    let a = num x * scale o in
    let b = den x * 2 ^ mode in
    let h : 0 < b = mul-pos (den_pos x) (pow_pos mode) in
    subst (λ (z : ℤ). Nearest z (bottom x * 2 ^ mode) (whole mode o x)) (sym (raised x (scale o)))
    (subst (λ (d : ℕ). Nearest (signed_by (negative x) a) (d * 2 ^ mode) (whole mode o x)) (sym (under x))
    (half_signed (negative x) a b (closest a b) (nearest_half a b h)))

is_below_lem : (mode : ℕ) (x : Float) → finite x ≡ true → Decides (is_below x mode) (BelowMode mode x)
is_below_lem mode nan e = absurd (false≢true e)
is_below_lem mode (inf s) e = absurd (false≢true e)
is_below_lem mode (fin s m e) t =
    subst (λ (n : ℕ). Decides (ltb (m * up e) (2 ^ mode * down e)) (n < 2 ^ mode * down e)) (sym (size (fin s m e))) (less (m * up e) (2 ^ mode * down e))

-- what a number asks of a mode, as an offset or as a factor
pub record Suits (mode : ℕ) (o : Bool) (x : Float) : Type 0 where
  pub factor : o ≡ false → BelowMode mode x
  pub rounded : (n : ℤ) → Nearest (top x *ℤ pos (scale o)) (bottom x * 2 ^ mode) n → Spans 12 n

rounded_spans : (mode : ℕ) (o : Bool) (x : Float) → Spans 12 (whole mode o x)
    → (n : ℤ) → Nearest (top x *ℤ pos (scale o)) (bottom x * 2 ^ mode) n → Spans 12 n
rounded_spans mode o x s n u = subst (Spans 12) (alone _ _ (whole mode o x) n (unit x mode) (is_nearest mode o x) u) s

pub suits : (mode : ℕ) (o : Bool) (x : Float) → finite x ≡ true → Decides (is_field (field_in mode o x)) (Suits mode o x)
unfolding field_in field_of
suits mode true x e =
    restated (λ s. record { factor = λ z. absurd (false≢true (sym z)); rounded = rounded_spans mode true x s })
    (λ u. u.rounded (whole mode true x) (is_nearest mode true x)) (fits (negative x) (closest (num x * 1) (den x * 2 ^ mode)))
suits mode false x e = go (is_below x mode) (is_below_lem mode x e)
  where
    go : (b : Bool) → Decides b (BelowMode mode x)
        → Decides (is_field (cond b (signed_field (negative x) (closest (num x * 4096) (den x * 2 ^ mode))) 8192)) (Suits mode false x)
    go true d =
        restated (λ s. record { factor = λ _. d.passes refl; rounded = rounded_spans mode false x s })
        (λ u. u.rounded (whole mode false x) (is_nearest mode false x)) (fits (negative x) (closest (num x * 4096) (den x * 2 ^ mode)))
    go false d = record { passes = λ t. absurd (false≢true t); fails = λ _ u. d.fails refl (u.factor refl) }

-- where it suits, the field stands for the rounded number
pub stands_for : (mode : ℕ) (o : Bool) (x : Float) → finite x ≡ true → is_field (field_in mode o x) ≡ true
    → Nearest (top x *ℤ pos (scale o)) (bottom x * 2 ^ mode) (value_of (field_in mode o x))
unfolding field_in field_of
stands_for mode true x e t =
    let s = ((suits mode true x e).passes t).rounded (whole mode true x) (is_nearest mode true x) in
    subst (Nearest _ _) (sym (stands (negative x) (closest (num x * 1) (den x * 2 ^ mode)) s)) (is_nearest mode true x)
stands_for mode false x e t = go (is_below x mode) (is_below_lem mode x e) t
  where
    go : (b : Bool) → Decides b (BelowMode mode x) → is_field (cond b (signed_field (negative x) (closest (num x * 4096) (den x * 2 ^ mode))) 8192) ≡ true
        → Nearest (top x *ℤ pos 4096) (bottom x * 2 ^ mode) (value_of (cond b (signed_field (negative x) (closest (num x * 4096) (den x * 2 ^ mode))) 8192))
    go true d t =
        let s = ((suits mode false x e).passes (rw (confirmed (is_below_lem mode x e) (d.passes refl)) t)).rounded (whole mode false x) (is_nearest mode false x) in
        subst (Nearest _ _) (sym (stands (negative x) (closest (num x * 4096) (den x * 2 ^ mode)) s)) (is_nearest mode false x)
    go false d t = absurd (false≢true t)
