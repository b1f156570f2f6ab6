-- The rule, for laws of merges that are proved by a truth table: two masks share no bit, and the mandated bits lie in their mask.
--     row c ρ         the five numbers of a class, then further numbers: `var 0` to `var 4`, and `var 5` on
--     rules           seven expressions over them, a merge of each two masks and one of the mandated bits
--     holds           each is 0
--     by_rule         two expressions that agree at every choice of digits at which the seven are 0 are equal at each address
-- Assumes nothing.
use mathlib.Core.Path.{◌≡◌, refl}
use mathlib.Core.Bool.{Bool, true, false, cond}
use mathlib.Core.List.{List, [], ◌∷◌, ◌++◌}
use Prim.Native.Nat.{ℕ, zero, suc, ◌+◌, ◌/◌, ◌%◌, ◌<◌, ◌≤◌, suc-le-suc}
use native.Mathlib.Omega.{arith}
use lib.Dec.{eqb}
use lib.ListN.{length}
use borrow.Author.Tests.{eqb-true, eqb-false}
use Rattle.bits.specs.Merge.{merge, bit}
use Rattle.bits.proofs.Truth.{E, zeros, var, by, num, table, Zeros, law_if}
use Rattle.registers.specs.declared.Class.{Class}
use Rattle.registers.specs.Classes.{class_at, Rule}
use Rattle.registers.proofs.Whole.{rule}

-- ---- bits

-- a merge with no bit set is 0
nothing : (k m a b : ℕ) → ((j : ℕ) → j < k → cond (eqb (bit j m) 1) (bit j a) (bit j b) ≡ 0) → merge k m a b ≡ 0
unfolding merge
nothing zero m a b h = refl
nothing (suc k) m a b h =
    let low : cond (eqb (m % 2) 1) (a % 2) (b % 2) ≡ 0 = h 0 (omega arith) in
    rw (low, nothing k (m / 2) (a / 2) (b / 2) (λ j l. h (suc j) (suc-le-suc l)))

pub bit_zero : (j : ℕ) → bit j 0 ≡ 0
bit_zero zero = refl
bit_zero (suc j) = bit_zero j

bit_small : (j n : ℕ) → bit j n < 2
bit_small zero n = omega arith
bit_small (suc j) n = bit_small j (n / 2)

-- what a choice by the digit d gives, where d is 1 and where it is not
chosen : (d a b : ℕ) → (d ≡ 1 → a ≡ 0) → ((d ≡ 1 → ⊥) → b ≡ 0) → cond (eqb d 1) a b ≡ 0
chosen d a b is isnt = go (eqb d 1) refl
  where
    go : (r : Bool) → eqb d 1 ≡ r → cond r a b ≡ 0
    go true e = is (eqb-true d 1 e)
    go false e = isnt (eqb-false d 1 e)

apart : (k x y : ℕ) → ((j : ℕ) → j < k → bit j x + bit j y ≤ 1) → merge k x y 0 ≡ 0
apart k x y h = nothing k x y 0 (λ j l. chosen (bit j x) (bit j y) (bit j 0) (λ e. omega (arith, h j l)) (λ _. bit_zero j))

within : (k x y : ℕ) → ((j : ℕ) → j < k → bit j y ≤ bit j x) → merge k x 0 y ≡ 0
within k x y h = nothing k x 0 y (λ j l. chosen (bit j x) (bit j 0) (bit j y) (λ _. bit_zero j) (λ n. omega (arith, h j l, bit_small j x)))

-- ---- every pair of a list of masks

abbrev pairs : E → List E → List E
pairs x [] = []
pairs x (y ∷ ys) = by x y zeros ∷ pairs x ys

abbrev all_pairs : List E → List E
all_pairs [] = []
all_pairs (x ∷ xs) = pairs x xs ++ all_pairs xs

module _ (k : ℕ) (ρ : List ℕ) where
  -- how many of the masks have bit j
  abbrev many : ℕ → List E → ℕ
  many j [] = 0
  many j (x ∷ xs) = bit j (num k x ρ) + many j xs

  zeros_append : (hs gs : List E) → Zeros k hs ρ → Zeros k gs ρ → Zeros k (hs ++ gs) ρ
  zeros_append [] gs z w = w
  zeros_append (h ∷ hs) gs z w = (z.0, zeros_append hs gs z.1 w)

  pairs_apart : (x : E) (ys : List E) → ((j : ℕ) → j < k → bit j (num k x ρ) + many j ys ≤ 1) → Zeros k (pairs x ys) ρ
  pairs_apart x [] h = tt
  pairs_apart x (y ∷ ys) h =
      (apart k (num k x ρ) (num k y ρ) (λ j l. omega (arith, h j l)), pairs_apart x ys (λ j l. omega (arith, h j l)))

  all_apart : (xs : List E) → ((j : ℕ) → j < k → many j xs ≤ 1) → Zeros k (all_pairs xs) ρ
  all_apart [] h = tt
  all_apart (x ∷ xs) h = zeros_append (pairs x xs) (all_pairs xs) (pairs_apart x xs h) (all_apart xs (λ j l. omega (arith, h j l)))

-- ---- the classes

abbrev pub row : Class → List ℕ → List ℕ
row c ρ = c.read_only ∷ c.mandated ∷ c.named ∷ c.free ∷ c.bits ∷ ρ

abbrev pub rules : List E
rules = by (var 1) zeros (var 4) ∷ all_pairs (var 0 ∷ var 1 ∷ var 2 ∷ var 3 ∷ [])

pub holds : (c : Class) (ρ : List ℕ) → Rule c → Zeros 8 rules (row c ρ)
holds c ρ r = (
  within 8 c.mandated c.bits r.inside,
  all_apart 8 (row c ρ) (var 0 ∷ var 1 ∷ var 2 ∷ var 3 ∷ []) (λ j l. omega (arith, r.one j l)),
)

pub by_rule : (e f : E) (a : ℕ) (ρ : List ℕ) → table (length (row (class_at a) ρ)) rules e f ≡ true → a < 256
    → num 8 e (row (class_at a) ρ) ≡ num 8 f (row (class_at a) ρ)
by_rule e f a ρ t h = law_if rules e f 8 (row (class_at a) ρ) t (holds (class_at a) ρ (rule a h))
