-- A body, coefficient by coefficient, and fields of 13 bits.
-- Assumes nothing.
use mathlib.Core.Path.{◌≡◌, refl, ap, ap₂, ◌∙◌}
use mathlib.Core.Bool.{true, ◌&&◌}
use mathlib.Core.List.{List, [], ◌∷◌, ◌++◌}
use Prim.Native.Nat.{ℕ, zero, suc, ◌+◌, ◌*◌, ◌/◌, ◌<◌, ◌≤◌}
use native.Mathlib.Numerals.{add-one}
use native.Mathlib.Omega.{arith}
use lib.Dec.{eqb, leb, ltb, lit<}
use native.Mathlib.Nat.{le_refl}
use borrow.Author.Tests.{eqb-true, leb-true}
use lib.ListN.{get_or-append, length-append, length, get_or, drop, drop_of_length-le}
use lib.Seq.{get_or-append_seam, drop-cons}
use Rattle.lists.proofs.Both.{both_left, both_right}
use Rattle.matrix.specs.Coefficient.{word, low_thirteen, coefficient_bytes}
use Rattle.matrix.specs.Tests.{within}
use Rattle.matrix.specs.Matrix.{fields, word_at, no_matrix}
use Rattle.matrix.specs.Tests.{in_range, is_allowed, small_fields}
use Rattle.matrix.proofs.Signs.{carried}
use Rattle.std.specs.List.{list_all}
use Rattle.std.specs.Simd.{first_chunks}

-- what is left of a body from coefficient i on
abbrev pub rest : List ℕ → ℕ → List ℕ
rest body i = drop (2 * i + 1) body

-- two elements of a list, and what is left of it
pub two_left : (l : List ℕ) (n : ℕ) → suc n < length l → drop n l ≡ get_or l n 0 ∷ get_or l (suc n) 0 ∷ drop (suc (suc n)) l
two_left l n h = drop-cons l n 0 (omega arith) ∙ ap (λ (m : List ℕ). get_or l n 0 ∷ m) (drop-cons l (suc n) 0 h)

next : (body : List ℕ) (i : ℕ) → 2 * i + 2 < length body
    → rest body i ≡ get_or body (2 * i + 1) 0 ∷ get_or body (2 * i + 2) 0 ∷ rest body (i + 1)
next body i h =
    let e : 2 * i + 2 ≡ suc (2 * i + 1) = omega arith in
    let f : 2 * (i + 1) + 1 ≡ suc (suc (2 * i + 1)) = omega arith in
    rw (e, f) (two_left body (2 * i + 1) (omega arith))

pub range_more : (body : List ℕ) (i : ℕ) → 2 * i + 2 < length body → in_range (rest body i) ≡ (within (word_at body i) && in_range (rest body (i + 1)))
unfolding in_range
range_more body i h = ap in_range (next body i h)

pub fields_more : (body : List ℕ) (i : ℕ) → 2 * i + 2 < length body → fields (rest body i) ≡ low_thirteen (word_at body i) ∷ fields (rest body (i + 1))
unfolding fields
fields_more body i h = ap fields (next body i h)

-- the pairs of a list
pub pairs_range : (k : ℕ) (l : List ℕ) → length l ≡ k * 2 → list_all (λ p. within (word (get_or p 0 0) (get_or p 1 0))) (first_chunks 2 k l) ≡ in_range l
unfolding in_range
pairs_range zero [] e = refl
pairs_range zero (x ∷ l) e = absurd (omega (arith, e))
pairs_range (suc k) [] e = absurd (omega (arith, e))
pairs_range (suc k) (x ∷ []) e = absurd (omega (arith, e))
pairs_range (suc k) (x ∷ y ∷ l) e = ap (λ b. within (word x y) && b) (pairs_range k l (omega (arith, e)))

pub range_end : (body : List ℕ) (i : ℕ) → length body ≤ 2 * i + 1 → in_range (rest body i) ≡ true
unfolding in_range
range_end body i h = ap in_range (drop_of_length-le body h)

-- what a is_allowed body is
module _ (body : List ℕ) (s : is_allowed body ≡ true) where
  pub sized : length body ≡ 25
  unfolding is_allowed
  sized = eqb-true _ _ (both_left _ _ (both_left _ (in_range (drop 1 body)) s))

  pub mode_small : get_or body 0 0 ≤ 2
  unfolding is_allowed
  mode_small = leb-true _ _ (both_right (eqb (length body) 25) _ (both_left _ (in_range (drop 1 body)) s))

  pub ranged : in_range (drop 1 body) ≡ true
  unfolding is_allowed
  ranged = both_right (eqb (length body) 25 && leb (get_or body 0 0) 2) _ s

pub fields_small : (bytes : List ℕ) (i : ℕ) → get_or (fields bytes) i 0 < 8192
unfolding fields
fields_small [] i = lit< tt
fields_small (high ∷ []) i = lit< tt
fields_small (high ∷ low ∷ more) zero = omega arith
fields_small (high ∷ low ∷ more) (suc i) = fields_small more i

-- and those of no matrix
pub none_small : (i : ℕ) → get_or no_matrix.coefficients i 0 < 8192
unfolding fields
none_small i = fields_small (8 ∷ 0 ∷ 0 ∷ 0 ∷ 0 ∷ 0 ∷ 0 ∷ 0 ∷ 0 ∷ 0 ∷ 8 ∷ 0 ∷ 0 ∷ 0 ∷ 0 ∷ 0 ∷ 0 ∷ 0 ∷ 0 ∷ 0 ∷ 8 ∷ 0 ∷ 0 ∷ 0 ∷ []) i

pub length_fields : (l : List ℕ) → length (fields l) ≡ length l / 2
unfolding fields
length_fields [] = refl
length_fields (x ∷ []) = refl
length_fields (x ∷ y ∷ more) = omega (arith, length_fields more)

-- the bytes of fields are two for each, and say those fields
pub length_bytes : (cs : List ℕ) → length (coefficient_bytes cs) ≡ 2 * length cs
length_bytes [] = refl
length_bytes (c ∷ cs) = omega (arith, length_bytes cs)

pub fields_said : (cs : List ℕ) → ((i : ℕ) → get_or cs i 0 < 8192) → fields (coefficient_bytes cs) ≡ cs
unfolding fields
fields_said [] h = refl
fields_said (c ∷ cs) h = rw ((carried c (h 0)).same, fields_said cs (λ i. h (suc i)))

-- fields that have 13 bits, and one more
pub small_push : (xs : List ℕ) (x : ℕ) → small_fields (xs ++ x ∷ []) (length (xs ++ x ∷ [])) ≡ (small_fields xs (length xs) && ltb x 8192)
small_push xs x = rw (length-append xs (x ∷ []), add-one, get_or-append_seam xs x [] 0) (ap (λ b. b && ltb x 8192) (kept (length xs) (le_refl _)))
  where
    kept : (n : ℕ) → n ≤ length xs → small_fields (xs ++ x ∷ []) n ≡ small_fields xs n
    kept zero h = refl
    kept (suc n) h = ap₂ (λ b k. b && ltb k 8192) (kept n (omega arith)) (get_or-append xs (x ∷ []) 0 n (omega arith))

-- fields got one by one of their pairs
pub fields_at : (l : List ℕ) (i : ℕ) → 2 * i + 1 < length l → get_or (fields l) i 0 ≡ low_thirteen (word (get_or l (2 * i) 0) (get_or l (2 * i + 1) 0))
unfolding fields
fields_at [] i h = absurd (omega (arith, h))
fields_at (x ∷ []) i h = absurd (omega (arith, h))
fields_at (x ∷ y ∷ l) zero h = refl
fields_at (x ∷ y ∷ l) (suc i) h =
    let e : 2 * suc i ≡ suc (suc (2 * i)) = omega arith in
    let f : 2 * suc i + 1 ≡ suc (suc (2 * i + 1)) = omega arith in
    rw (f, e) (fields_at l i (omega arith))
