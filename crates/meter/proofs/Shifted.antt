-- `closest` by its three cases, and shifts: what `meter::nearest` works out. Assumes nothing.
use mathlib.Core.Path.{◌≡◌, refl, sym, ap, ◌∙◌, subst}
use Prim.Native.Nat.{ℕ, suc, ◌+◌, ◌*◌, ◌/◌, ◌%◌, ◌^◌, ◌≤◌, ◌<◌, compare, Ordering}
use native.Mathlib.Nat.{lt_irrefl, lt_of_lt_of_le, le_trans, mod-eq_of_lt, div-eq_of_lt}
use native.Mathlib.Omega.{arith}
use mathlib.Core.Bool.{not}
use lib.Dec.{T, is_le, compare_is_eq, leb→le, nleb→lt, eqb→eq, eqb_refl, eqb, lit≤}
use lib.Pow.{pow_mono}
use lib.Ieee.{nearest}
use lib.Ieee.Nearest.{closest}

-- ---- `compare`
less : (a b : ℕ) → a < b → compare a b ≡ Ordering.lt
less a b h = go (compare a b) (nleb→lt a b) (eqb→eq a b)
  where
    go : (o : Ordering) → (T (not (is_le o)) → b < a) → (T (compare_is_eq o) → a ≡ b) → o ≡ Ordering.lt
    go Ordering.lt k e = refl
    go Ordering.eq k e = absurd (lt_irrefl b (subst (λ (x : ℕ). x < b) (e tt) h))
    go Ordering.gt k e = absurd (clash a b h (k tt))
      where
        clash : (a b : ℕ) → a < b → b < a → ⊥
        clash a b h k = omega arith

more : (a b : ℕ) → b < a → compare a b ≡ Ordering.gt
more a b h = go (compare a b) (leb→le a b)
  where
    clash : a ≤ b → ⊥
    clash k = omega arith

    go : (o : Ordering) → (T (is_le o) → a ≤ b) → o ≡ Ordering.gt
    go Ordering.lt k = absurd (clash (k tt))
    go Ordering.eq k = absurd (clash (k tt))
    go Ordering.gt k = refl

even : (a b : ℕ) → a ≤ b → b ≤ a → compare a b ≡ Ordering.eq
even a b h k = go (compare a b) (nleb→lt a b) (subst (λ (x : ℕ). T (eqb a x)) (same h k) (eqb_refl a))
  where
    same : a ≤ b → b ≤ a → a ≡ b
    same h k = omega arith

    clash : b < a → ⊥
    clash l = omega arith

    go : (o : Ordering) → (T (not (is_le o)) → b < a) → T (compare_is_eq o) → o ≡ Ordering.eq
    go Ordering.lt g e = absurd e
    go Ordering.eq g e = refl
    go Ordering.gt g e = absurd (clash (g tt))

-- ---- the three answers
pub down : (a b : ℕ) → a % b * 2 < b → a / b ≡ closest a b
down a b h = sym (ap (λ (o : Ordering). nearest (a / b) o) (less (a % b * 2) b h))

pub up : (a b : ℕ) → b < a % b * 2 → a / b + 1 ≡ closest a b
up a b h = next (a / b) ∙ sym (ap (λ (o : Ordering). nearest (a / b) o) (more (a % b * 2) b h))
  where
    next : (n : ℕ) → n + 1 ≡ suc n
    next n = omega arith

pub tied : (a b : ℕ) → a % b * 2 ≤ b → b ≤ a % b * 2 → a / b + a / b % 2 ≡ closest a b
tied a b h k = sym (ap (λ (o : Ordering). nearest (a / b) o) (even (a % b * 2) b h k))

-- ---- shifts
-- a shift of more than 25 leaves less than a quarter
pub far : (a s : ℕ) → a < 2 ^ 24 → 25 < s → 0 ≡ closest a (2 ^ s)
far a s h k =
    let big : 2 ^ 26 ≤ 2 ^ s = pow_mono k in
    let small : a < 2 ^ s = lt_of_lt_of_le h (le_trans (lit≤ tt) big) in
    sym (div-eq_of_lt small) ∙ down a (2 ^ s) (subst (λ (x : ℕ). x * 2 < 2 ^ s) (sym (mod-eq_of_lt small)) (twice (2 ^ s) big))
  where
    twice : (p : ℕ) → 67108864 ≤ p → a * 2 < p
    twice p g = omega (arith, h)
