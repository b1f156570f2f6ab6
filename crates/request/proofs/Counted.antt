-- What the bodies that a walk finds say of the input's length, over any sections. Assumes nothing.
use mathlib.Core.Path.{◌≡◌, refl, ap, ◌∙◌}
use mathlib.Core.Bool.{Bool, true, false, false≢true, ◌||◌}
use mathlib.Core.List.{List, [], ◌∷◌, ◌++◌, map, flat_map}
use Prim.Native.Nat.{ℕ, suc, ◌+◌, ◌≤◌}
use native.Mathlib.Omega.{arith}
use lib.Dec.{eqb}
use lib.ListN.{length, length-append}
use borrow.Author.Tests.{eqb-true, eq-eqb}
use Rattle.lists.specs.Among.{among}
use Rattle.lists.proofs.Both.{both_left, both_right}
use Rattle.request.specs.Sections.{Walk, ends, not_allowed, whole, walk, largest, longest_of}
use Rattle.request.specs.Lengths.{lengths_of}
use Rattle.request.specs.Bytes.{laid}
use Rattle.request.specs.Walks.{fits}
use Rattle.request.proofs.Walks.{Found, found}

-- the bytes of sections with these bodies, each after its count
abbrev pub span : List (List ℕ) → ℕ
span [] = 0
span (b ∷ bs) = suc (length b) + span bs

-- the input's length is that of the sections and of the bytes after them
abbrev pub Counted : List (List ℕ) → ℕ → Walk → Type 0
Counted cs n ends = Unit {0}
Counted cs n not_allowed = Unit {0}
Counted cs n (whole bodies rest) = (n ≡ span bodies + length rest) × (fits cs bodies ≡ true)

length_laid : (bodies : List (List ℕ)) (rest : List ℕ) → length (laid bodies rest) ≡ span bodies + length rest
length_laid [] rest = omega arith
length_laid (b ∷ bs) rest = omega (arith, length-append b (laid bs rest), length_laid bs rest)

pub counted : (cs : List (List ℕ)) (s : List ℕ) → Counted cs (length s) (walk cs s)
counted cs s = go (walk cs s) (found cs s)
  where
    go : (w : Walk) → Found cs s w → Counted cs (length s) w
    go ends f = tt
    go not_allowed f = tt
    go (whole bodies rest) f = (ap length f.1 ∙ length_laid bodies rest, f.0)

-- a number stands in a list: at its head, or after it
either : (P : Type 0) (n x : ℕ) (l : List ℕ) → (n ≡ x → P) → (among n l ≡ true → P) → among n (x ∷ l) ≡ true → P
either P n x l f g t = go (eqb n x) refl t
  where
    go : (b : Bool) → eqb n x ≡ b → (b || among n l) ≡ true → P
    go true e t = f (eqb-true n x e)
    go false e t = g t

later : (n x : ℕ) (l : List ℕ) → among n l ≡ true → among n (x ∷ l) ≡ true
later n x l t = go (eqb n x)
  where
    go : (b : Bool) → (b || among n l) ≡ true
    go true = refl
    go false = t

front : (k : ℕ) (xs ys : List ℕ) → among k xs ≡ true → among k (xs ++ ys) ≡ true
front k [] ys h = absurd (false≢true h)
front k (x ∷ xs) ys h =
    either (among k (x ∷ (xs ++ ys)) ≡ true) k x xs (λ e. rw (eq-eqb k x e)) (λ l. later k x (xs ++ ys) (front k xs ys l)) h

back : (k : ℕ) (xs ys : List ℕ) → among k ys ≡ true → among k (xs ++ ys) ≡ true
back k [] ys h = h
back k (x ∷ xs) ys h = later k x (xs ++ ys) (back k xs ys h)

-- each count of the first section with each length of the others
counted_with : (n t : ℕ) (c : List ℕ) → among n c ≡ true → among (suc n + t) (map (λ m. suc m + t) c) ≡ true
counted_with n t [] h = absurd (false≢true h)
counted_with n t (x ∷ c) h =
    either (among (suc n + t) (map (λ m. suc m + t) (x ∷ c)) ≡ true) n x c (λ e. rw (eq-eqb (suc n + t) (suc x + t) (omega arith)))
    (λ l. later (suc n + t) (suc x + t) (map (λ m. suc m + t) c) (counted_with n t c l)) h

abbrev each_with : List ℕ → List ℕ → List ℕ
each_with c = flat_map (λ t. map (λ n. suc n + t) c)

each_with_lem : (n t : ℕ) (c ts : List ℕ) → among n c ≡ true → among t ts ≡ true → among (suc n + t) (each_with c ts) ≡ true
unfolding flat_map
each_with_lem n t c [] h k = absurd (false≢true k)
each_with_lem n t c (x ∷ ts) h k =
    either (among (suc n + t) (each_with c (x ∷ ts)) ≡ true) t x ts
    (λ e. rw e (front (suc n + x) (map (λ m. suc m + x) c) (each_with c ts) (counted_with n x c h)))
    (λ l. back (suc n + t) (map (λ m. suc m + x) c) (each_with c ts) (each_with_lem n t c ts h l)) k

pub spanned : (cs bodies : List (List ℕ)) → fits cs bodies ≡ true → among (span bodies) (lengths_of cs) ≡ true
spanned [] [] t = refl
spanned [] (b ∷ bs) t = absurd (false≢true t)
spanned (c ∷ cs) [] t = absurd (false≢true t)
spanned (c ∷ cs) (b ∷ bs) t =
    each_with_lem (length b) (span bs) c (lengths_of cs) (both_left (among (length b) c) (fits cs bs) t) (spanned cs bs (both_right (among (length b) c) (fits cs bs) t))

-- a count is at most the largest of its section, and a span at most the longest
pub at_most : (n : ℕ) (c : List ℕ) → among n c ≡ true → n ≤ largest c
at_most n [] t = absurd (false≢true t)
at_most n (x ∷ c) t = either (n ≤ largest (x ∷ c)) n x c (λ e. omega arith) (λ l. omega (arith, at_most n c l)) t

pub within : (cs bodies : List (List ℕ)) → fits cs bodies ≡ true → span bodies ≤ longest_of cs
within [] [] t = omega arith
within [] (b ∷ bs) t = absurd (false≢true t)
within (c ∷ cs) [] t = absurd (false≢true t)
within (c ∷ cs) (b ∷ bs) t =
    omega (arith, at_most (length b) c (both_left (among (length b) c) (fits cs bs) t), within cs bs (both_right (among (length b) c) (fits cs bs) t))
