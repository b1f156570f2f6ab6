-- A search in a table: what every entry passes, and what stands in for none, the entry found passes; a test that every entry passes, entry
-- by entry; a table of three numbers, the first 0.
-- Assumes nothing.
use mathlib.Core.Path.{◌≡◌, refl, ap, ◌∙◌}
use mathlib.Core.Bool.{Bool, true, false, cond, true≢false, ◌&&◌}
use mathlib.Core.List.{List, [], ◌∷◌}
use Prim.Native.Nat.{ℕ, zero, suc, ◌+◌, ◌<◌, suc-le-suc}
use native.Mathlib.Nat.{not-suc-le-zero, zero-lt-suc, le_of_suc-le-suc}
use native.Mathlib.Numerals.{add-one}
use lib.ListN.{length, drop, get_or}
use lib.Seq.{drop-cons}
use Rattle.lists.specs.Find.{find, every}
use Rattle.lists.proofs.Both.{both_left, both_right}

module _ {A : Type 0} (rule : A → Bool) where
  pub found : (test : A → Bool) (d : A) (xs : List A) → every rule xs ≡ true → rule d ≡ true → rule (find test d xs) ≡ true
  found test d [] t e = e
  found test d (x ∷ xs) t e =
      go (test x) (both_left (rule x) (every rule xs) t) (found test d xs (both_right (rule x) (every rule xs) t) e)
    where
      go : (b : Bool) → rule x ≡ true → rule (find test d xs) ≡ true → rule (cond b x (find test d xs)) ≡ true
      go true here there = here
      go false here there = there

-- entry by entry, both ways; and where it fails, an entry that does not pass
pub every_at : {A : Type 0} (test : A → Bool) (l : List A) (k : ℕ) (d : A) → every test l ≡ true → k < length l → test (get_or l k d) ≡ true
every_at test [] k d t h = absurd (not-suc-le-zero h)
every_at test (x ∷ xs) zero d t h = both_left (test x) (every test xs) t
every_at test (x ∷ xs) (suc k) d t h = every_at test xs k d (both_right (test x) (every test xs) t) (le_of_suc-le-suc h)

-- past the last entry what stands in for none
pub every_or : {A : Type 0} (test : A → Bool) (l : List A) (d : A) → every test l ≡ true → test d ≡ true → (k : ℕ) → test (get_or l k d) ≡ true
every_or test [] d t e k = e
every_or test (x ∷ xs) d t e zero = both_left (test x) (every test xs) t
every_or test (x ∷ xs) d t e (suc k) = every_or test xs d (both_right (test x) (every test xs) t) e k

pub at_every : {A : Type 0} (test : A → Bool) (l : List A) (d : A) → ((k : ℕ) → k < length l → test (get_or l k d) ≡ true) → every test l ≡ true
at_every test [] d f = refl
at_every test (x ∷ xs) d f = rw (f 0 (zero-lt-suc _)) (at_every test xs d (λ k h. f (suc k) (suc-le-suc h)))

pub record Failing {A : Type 0} (test : A → Bool) (l : List A) (d : A) : Type 0 where
  pub place : ℕ
  pub within : place < length l
  pub fails : test (get_or l place d) ≡ false

pub one_failing : {A : Type 0} (test : A → Bool) (l : List A) (d : A) → every test l ≡ false → Failing test l d
one_failing test [] d e = absurd (true≢false e)
one_failing test (x ∷ xs) d e = go (test x) refl (one_failing test xs d) e
  where
    go : (b : Bool) → test x ≡ b → (every test xs ≡ false → Failing test xs d) → (b && every test xs) ≡ false → Failing test (x ∷ xs) d
    go true p more e = let f = more e in record { place = suc f.place; within = suc-le-suc f.within; fails = f.fails }
    go false p more e = record { place = 0; within = zero-lt-suc _; fails = p }

-- the entries that a search has not passed yet: the next one, and those after it
pub next : {A : Type 0} (l : List A) (i : ℕ) (d : A) → i < length l → drop i l ≡ get_or l i d ∷ drop (i + 1) l
next l i d h = rw (add-one i) (drop-cons l i d h)

-- a test that every entry passes, where a loop has looked at i of them
pub every_next : {A : Type 0} (test : A → Bool) (l : List A) (i : ℕ) (d : A) → i < length l
    → every test (drop i l) ≡ (test (get_or l i d) && every test (drop (i + 1) l))
every_next test l i d h = ap (every test) (next l i d h)

-- a search that a loop makes entry by entry: where entry i passes, what is found from there on is its value; where it fails, what is found after it
module _ {A B : Type 0} (seek : List A → B) (test : A → Bool) (value : A → B)
    (step : (x : A) (xs : List A) → seek (x ∷ xs) ≡ cond (test x) (value x) (seek xs)) (l : List A) (d : A) (i : ℕ) (h : i < length l) where
  pub passes : test (get_or l i d) ≡ true → seek (drop i l) ≡ value (get_or l i d)
  passes e = ap seek (next l i d h) ∙ step _ _ ∙ rw e

  pub fails : test (get_or l i d) ≡ false → seek (drop i l) ≡ seek (drop (i + 1) l)
  fails e = ap seek (next l i d h) ∙ step _ _ ∙ rw e

-- at no place but the second and the third is there a number other than 0
pub neither : (x y n : ℕ) → (n ≡ 1 → ⊥) → (n ≡ 2 → ⊥) → get_or (0 ∷ x ∷ y ∷ []) n 0 ≡ 0
neither x y zero a b = refl
neither x y (suc zero) a b = absurd (a refl)
neither x y (suc (suc zero)) a b = absurd (b refl)
neither x y (suc (suc (suc n))) a b = refl
