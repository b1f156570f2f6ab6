-- A buffer that is filled from the front: `sets d at xs` of lib.Seq is d with xs stored from index at.
--     sets_append     a run of stores after another is one run
--     sets_two        two stores more
--     sets_front      a run from index 0: the list, and then what was there
--     map_at          an element of a mapped list
-- Assumes nothing.
use mathlib.Core.Path.{◌≡◌, refl, sym, ap, ◌∙◌}
use mathlib.Core.List.{List, [], ◌∷◌, ◌++◌, map}
use Prim.Native.Nat.{ℕ, zero, suc, ◌+◌, ◌<◌, ◌≤◌}
use native.Mathlib.Nat.{add-zero, zero-add, add-suc, suc-add, not-suc-le-zero, le_of_suc-le-suc}
use native.Mathlib.Numerals.{add-one}
use native.Mathlib.Omega.{arith}
use lib.ListN.{length, get_or, drop, set}
use lib.Seq.{sets, sets-eq}

pub sets_append : (xs ys d : List ℕ) (at : ℕ) → sets d at (xs ++ ys) ≡ sets (sets d at xs) (at + length xs) ys
sets_append [] ys d at = rw add-zero
sets_append (x ∷ xs) ys d at =
    sets_append xs ys (set d at x) (suc at) ∙ ap (λ (n : ℕ). sets (sets (set d at x) (suc at) xs) n ys) (suc-add at (length xs) ∙ sym (add-suc at (length xs)))

pub sets_two : (xs d : List ℕ) (at n a b : ℕ) → at + length xs ≡ n → set (set (sets d at xs) n a) (n + 1) b ≡ sets d at (xs ++ (a ∷ b ∷ []))
sets_two xs d at n a b e = rw (add-one, ← e) (sym (sets_append xs (a ∷ b ∷ []) d at))

pub sets_front : (xs d : List ℕ) → length xs ≤ length d → sets d 0 xs ≡ xs ++ drop (length xs) d
sets_front xs d h =
    let h' : 0 + length xs ≤ length d = omega arith in
    sets-eq xs d 0 h' ∙ ap (λ (n : ℕ). xs ++ drop n d) (zero-add (length xs))

-- an element of a mapped list, whatever stands in for none
pub map_at : {A B : Type 0} (f : A → B) (l : List A) (i : ℕ) (d : A) (e : B) → i < length l → get_or (map f l) i e ≡ f (get_or l i d)
map_at f [] i d e h = absurd (not-suc-le-zero h)
map_at f (x ∷ l) zero d e h = refl
map_at f (x ∷ l) (suc i) d e h = map_at f l i d e (le_of_suc-le-suc h)
