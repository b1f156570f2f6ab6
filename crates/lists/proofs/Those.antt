-- Laws of `those`, the entries of a list that pass a test. Assumes nothing.
use mathlib.Core.Path.{◌≡◌, refl, ap}
use mathlib.Core.Bool.{Bool, true, false, cond, not, ◌&&◌, ◌||◌}
use mathlib.Core.List.{List, [], ◌∷◌, ◌++◌, map}
use Prim.Native.Nat.{ℕ, zero, suc, ◌+◌, ◌≤◌, ◌<◌, suc-le-suc}
use native.Mathlib.Nat.{not-suc-le-zero, le_of_suc-le-suc, zero-lt-suc}
use native.Mathlib.Omega.{arith}
use lib.ListN.{length, get_or}
use Rattle.lists.specs.Find.{every}
use Rattle.lists.specs.Those.{those}
use Rattle.lists.proofs.Both.{both_left, both_right}

module _ {A : Type 0} where
  pub those_append : (test : A → Bool) (xs ys : List A) → those test (xs ++ ys) ≡ those test xs ++ those test ys
  those_append test [] ys = refl
  those_append test (x ∷ xs) ys = go (test x) (those_append test xs ys)
    where
      go : (c : Bool) → those test (xs ++ ys) ≡ those test xs ++ those test ys
          → cond c (x ∷ []) [] ++ those test (xs ++ ys) ≡ (cond c (x ∷ []) [] ++ those test xs) ++ those test ys
      go true e = ap (λ (l : List A). x ∷ l) e
      go false e = e

  -- what holds of every entry holds of every entry that passes
  pub of_those : (P : A → Type 0) (test : A → Bool) (d : A) (xs : List A) → ((k : ℕ) → k < length xs → P (get_or xs k d))
      → (k : ℕ) → k < length (those test xs) → P (get_or (those test xs) k d)
  of_those P test d [] each k h = absurd (not-suc-le-zero h)
  of_those P test d (x ∷ xs) each k h = go (test x) (of_those P test d xs (λ j l. each (suc j) (suc-le-suc l))) k h
    where
      go : (c : Bool) → ((k : ℕ) → k < length (those test xs) → P (get_or (those test xs) k d))
          → (k : ℕ) → k < length (cond c (x ∷ []) [] ++ those test xs) → P (get_or (cond c (x ∷ []) [] ++ those test xs) k d)
      go true rest zero h = each 0 (zero-lt-suc _)
      go true rest (suc k) h = rest k (le_of_suc-le-suc h)
      go false rest k h = rest k h

  pub no_more : (test : A → Bool) (xs : List A) → length (those test xs) ≤ length xs
  no_more test [] = omega arith
  no_more test (x ∷ xs) = go (test x) (no_more test xs)
    where
      go : (c : Bool) → length (those test xs) ≤ length xs → length (cond c (x ∷ []) [] ++ those test xs) ≤ suc (length xs)
      go true h = omega (arith, h)
      go false h = omega (arith, h)

  -- two tests in a row
  pub those_both : (p q : A → Bool) (xs : List A) → those p (those q xs) ≡ those (λ x. q x && p x) xs
  those_both p q [] = refl
  those_both p q (x ∷ xs) = go (q x) (those_both p q xs)
    where
      go : (c : Bool) → those p (those q xs) ≡ those (λ x. q x && p x) xs
          → those p (cond c (x ∷ []) [] ++ those q xs) ≡ cond (c && p x) (x ∷ []) [] ++ those (λ x. q x && p x) xs
      go true e = ap (λ (l : List A). cond (p x) (x ∷ []) [] ++ l) e
      go false e = e

  -- tests that say the same of every entry
  pub those_same : (p q : A → Bool) (xs : List A) → ((x : A) → p x ≡ q x) → those p xs ≡ those q xs
  those_same p q [] e = refl
  those_same p q (x ∷ xs) e = rw (e x, those_same p q xs e)

  pub those_same_if : (ok p q : A → Bool) (xs : List A) → every ok xs ≡ true → ((x : A) → ok x ≡ true → p x ≡ q x) → those p xs ≡ those q xs
  those_same_if ok p q [] t e = refl
  those_same_if ok p q (x ∷ xs) t e =
      rw (e x (both_left (ok x) (every ok xs) t), those_same_if ok p q xs (both_right (ok x) (every ok xs) t) e)

  -- those of one kind, and the others that pass
  pub in_two : (t u : A → Bool) (xs : List A)
      → length (those (λ x. t x || u x) xs) ≡ length (those (λ x. not (t x) && u x) xs) + length (those t xs)
  in_two t u [] = refl
  in_two t u (x ∷ xs) = go (t x) (u x) (in_two t u xs)
    where
      go : (a b : Bool) → length (those (λ x. t x || u x) xs) ≡ length (those (λ x. not (t x) && u x) xs) + length (those t xs)
          → length (cond (a || b) (x ∷ []) [] ++ those (λ x. t x || u x) xs)
          ≡ length (cond (not a && b) (x ∷ []) [] ++ those (λ x. not (t x) && u x) xs) + length (cond a (x ∷ []) [] ++ those t xs)
      go true b e = omega (arith, e)
      go false true e = omega (arith, e)
      go false false e = e

module _ {A B : Type 0} where
  pub those_map : (f : A → B) (test : B → Bool) (xs : List A) → those test (map f xs) ≡ map f (those (λ x. test (f x)) xs)
  those_map f test [] = refl
  those_map f test (x ∷ xs) = go (test (f x)) (those_map f test xs)
    where
      go : (c : Bool) → those test (map f xs) ≡ map f (those (λ x. test (f x)) xs)
          → cond c (f x ∷ []) [] ++ those test (map f xs) ≡ map f (cond c (x ∷ []) [] ++ those (λ x. test (f x)) xs)
      go true e = ap (λ (l : List B). f x ∷ l) e
      go false e = e
