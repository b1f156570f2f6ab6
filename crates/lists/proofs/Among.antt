-- `among` says what it is named after: the number stands at some place. Assumes nothing.
use mathlib.Core.Path.{◌≡◌, refl, sym}
use mathlib.Core.Bool.{Bool, true, false, false≢true, ◌||◌}
use mathlib.Core.List.{List, [], ◌∷◌}
use Prim.Native.Nat.{ℕ, zero, suc, ◌<◌}
use native.Mathlib.Nat.{not-suc-le-zero, le_of_suc-le-suc}
use native.Mathlib.Omega.{arith}
use lib.Dec.{eqb}
use lib.ListN.{length, get_or}
use borrow.Author.Tests.{eqb-true, eq-eqb}
use Rattle.lists.specs.Among.{among}

pub record Stands (n : ℕ) (xs : List ℕ) : Type 0 where
  pub place : ℕ
  pub within : place < length xs
  pub there : get_or xs place 0 ≡ n

pub stands : (n : ℕ) (xs : List ℕ) → among n xs ≡ true → Stands n xs
stands n [] t = absurd (false≢true t)
stands n (x ∷ xs) t = go (eqb n x) refl (stands n xs) t
  where
    go : (b : Bool) → eqb n x ≡ b → (among n xs ≡ true → Stands n xs) → (b || among n xs) ≡ true → Stands n (x ∷ xs)
    go true e ih t = record { place = 0; within = omega arith; there = sym (eqb-true n x e) }
    go false e ih t = let r = ih t in record { place = suc r.place; within = omega (arith, r.within); there = r.there }

pub among_at : (n : ℕ) (xs : List ℕ) (i : ℕ) → i < length xs → get_or xs i 0 ≡ n → among n xs ≡ true
among_at n [] i h e = absurd (not-suc-le-zero h)
among_at n (x ∷ xs) zero h e = rw (eq-eqb n x (sym e))
among_at n (x ∷ xs) (suc i) h e = go (eqb n x) (among_at n xs i (le_of_suc-le-suc h) e)
  where
    go : (b : Bool) → among n xs ≡ true → (b || among n xs) ≡ true
    go true t = refl
    go false t = t
