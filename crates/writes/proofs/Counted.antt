-- Registers counted: a list in which each register that passes a test stands once has as many of them as there are. Assumes nothing.
use mathlib.Core.Path.{◌≡◌, refl, sym, ap, ap₂, ◌∙◌}
use mathlib.Core.Bool.{Bool, true, false, false≢true, cond}
use mathlib.Core.List.{List, [], ◌∷◌, ◌++◌}
use Prim.Native.Nat.{ℕ, zero, suc, ◌+◌, ◌<◌, ◌≤◌}
use native.Mathlib.Omega.{arith}
use lib.Dec.{eqb, ltb}
use lib.ListN.{length}
use borrow.Author.Tests.{eqb-true, eqb-false, ne_eqb, ltb-true}
use Rattle.lists.specs.Find.{every}
use Rattle.lists.specs.Those.{those}
use Rattle.lists.proofs.Both.{both_left, both_right}
use Rattle.writes.specs.Steps.{from}

-- a number where a test passes, else 0
abbrev pub if : Bool → ℕ → ℕ
if c n = cond c n 0

none : (c : Bool) → if c 0 ≡ 0
none true = refl
none false = refl

-- how often a number stands in a list
abbrev pub times : ℕ → List ℕ → ℕ
times a [] = 0
times a (x ∷ xs) = if (eqb a x) 1 + times a xs

-- the sum of f over count numbers from `first` on
abbrev sum : (ℕ → ℕ) → ℕ → ℕ → ℕ
sum f first zero = 0
sum f first (suc count) = f first + sum f (suc first) count

sum_same : (f g : ℕ → ℕ) (first count : ℕ) → ((a : ℕ) → first ≤ a → a < first + count → f a ≡ g a) → sum f first count ≡ sum g first count
sum_same f g first zero e = refl
sum_same f g first (suc count) e =
    ap₂ (λ (x y : ℕ). x + y) (e first (omega arith) (omega arith))
    (sum_same f g (suc first) count (λ a lo hi. e a (omega (arith, lo)) (omega (arith, hi))))

sum_add : (f g : ℕ → ℕ) (first count : ℕ) → sum (λ a. f a + g a) first count ≡ sum f first count + sum g first count
sum_add f g first zero = refl
sum_add f g first (suc count) = ap (λ (x : ℕ). f first + g first + x) (sum_add f g (suc first) count) ∙ omega arith

sum_zero : (first count : ℕ) → sum (λ _. 0) first count ≡ 0
sum_zero first zero = refl
sum_zero first (suc count) = omega (arith, sum_zero (suc first) count)

module _ (d : ℕ → Bool) where
  abbrev once : ℕ → ℕ
  once a = if (d a) 1

  abbrev only : ℕ → ℕ → ℕ
  only x a = if (d a) (if (eqb a x) 1)

  below_none : (x first count : ℕ) → x < first → sum (only x) first count ≡ 0
  below_none x first count h =
      sum_same (only x) (λ _. 0) first count (λ a lo hi. go (d a) (ne_eqb a x (λ e. omega (arith, h, lo, e)))) ∙ sum_zero first count
    where
      go : (c : Bool) {r : Bool} → r ≡ false → if c (if r 1) ≡ 0
      go c e = ap (λ (r : Bool). if c (if r 1)) e ∙ none c

  -- one number, if it lies there
  one : (x first count : ℕ) → first ≤ x → x < first + count → sum (only x) first count ≡ once x
  one x first zero lo hi = absurd (omega (arith, lo, hi))
  one x first (suc count) lo hi = go (eqb first x) refl (λ l. one x (suc first) count l (omega (arith, hi)))
    where
      go : (r : Bool) → eqb first x ≡ r → (suc first ≤ x → sum (only x) (suc first) count ≡ once x)
          → if (d first) (if r 1) + sum (only x) (suc first) count ≡ once x
      go true e _ =
          let q : first ≡ x = eqb-true first x e in
          ap (λ (n : ℕ). once first + n) (below_none x (suc first) count (omega (arith, q))) ∙ ap (λ (a : ℕ). once a + 0) q ∙ omega arith
      go false e later =
          let n : (first ≡ x) → ⊥ = eqb-false first x e in
          ap (λ (m : ℕ). m + sum (only x) (suc first) count) (none (d first)) ∙ omega (arith, later (omega (arith, lo, n)))

  head : (x : ℕ) (xs : List ℕ) → length (cond (d x) (x ∷ []) [] ++ xs) ≡ once x + length xs
  head x xs = go (d x)
    where
      go : (c : Bool) → length (cond c (x ∷ []) [] ++ xs) ≡ if c 1 + length xs
      go true = omega arith
      go false = omega arith

  pub none_in_run : (first count : ℕ) → ((a : ℕ) → first ≤ a → a < first + count → d a ≡ false) → those d (from first count) ≡ []
  none_in_run first zero e = refl
  none_in_run first (suc count) e =
      rw (e first (omega arith) (omega arith)) (none_in_run (suc first) count (λ a lo hi. e a (omega (arith, lo)) (omega (arith, hi))))

  -- what passes another test too is no more of the run
  pub no_more_of : (p : ℕ → Bool) (first count : ℕ) → ((a : ℕ) → first ≤ a → a < first + count → p a ≡ true → d a ≡ true)
      → length (those p (from first count)) ≤ length (those d (from first count))
  no_more_of p first zero e = omega arith
  no_more_of p first (suc count) e =
      go (p first) (d first) (e first (omega arith) (omega arith))
      (no_more_of p (suc first) count (λ a lo hi. e a (omega (arith, lo)) (omega (arith, hi))))
    where
      go : (x y : Bool) → (x ≡ true → y ≡ true) → length (those p (from (suc first) count)) ≤ length (those d (from (suc first) count))
          → length (cond x (first ∷ []) [] ++ those p (from (suc first) count)) ≤ length (cond y (first ∷ []) [] ++ those d (from (suc first) count))
      go true true i h = omega (arith, h)
      go true false i h = absurd (false≢true (i refl))
      go false true i h = omega (arith, h)
      go false false i h = h

  -- those of a run of numbers
  of_run : (first count : ℕ) → length (those d (from first count)) ≡ sum once first count
  of_run first zero = refl
  of_run first (suc count) = head first _ ∙ ap (λ (n : ℕ). once first + n) (of_run (suc first) count)

  -- those of a list, by number
  of_list : (count : ℕ) (xs : List ℕ) → every (λ x. ltb x count) xs ≡ true
      → length (those d xs) ≡ sum (λ a. if (d a) (times a xs)) 0 count
  of_list count [] t = sym (sum_same _ (λ _. 0) 0 count (λ a lo hi. none (d a)) ∙ sum_zero 0 count)
  of_list count (x ∷ xs) t =
      let h : x < count = ltb-true x count (both_left (ltb x count) _ t) in
      head x _ ∙ ap₂ (λ (m n : ℕ). m + n) (sym (one x 0 count (omega arith) (omega (arith, h)))) (of_list count xs (both_right (ltb x count) _ t))
      ∙ sym (sum_add (only x) (λ a. if (d a) (times a xs)) 0 count)
      ∙ sum_same _ _ 0 count (λ a lo hi. split (d a) (if (eqb a x) 1) (times a xs))
    where
      split : (c : Bool) (m n : ℕ) → if c m + if c n ≡ if c (m + n)
      split true m n = refl
      split false m n = refl

  pub as_many : (count : ℕ) (xs : List ℕ) → every (λ x. ltb x count) xs ≡ true
      → ((a : ℕ) → a < count → d a ≡ true → times a xs ≡ 1) → length (those d xs) ≡ length (those d (from 0 count))
  as_many count xs t each =
      of_list count xs t ∙ sum_same _ once 0 count (λ a lo hi. go (d a) (each a (omega (arith, hi)))) ∙ sym (of_run 0 count)
    where
      go : (c : Bool) {n : ℕ} → (c ≡ true → n ≡ 1) → if c n ≡ if c 1
      go true e = e refl
      go false e = refl
