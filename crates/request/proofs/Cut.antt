-- The lengths of a request, and what is answered for an input that is cut after the longest. Assumes nothing.
use mathlib.Core.Path.{◌≡◌, refl, sym, ap, subst, ◌∙◌}
use mathlib.Core.Bool.{Bool, true, false, cond, not}
use mathlib.Core.List.{List, [], ◌∷◌}
use Prim.Native.Nat.{ℕ, zero, suc, ◌+◌, ◌-◌, ◌≤◌, ◌<◌}
use native.Mathlib.Nat.{sub-zero, zero-sub}
use native.Mathlib.Numerals.{unary_clauses}
use native.Mathlib.Omega.{arith}
use lib.Dec.{eqb, leb, eqb-suc-zero}
use lib.ListN.{length, take, drop, length-take}
use lib.Seq.{length-take-le, take-take, take-nil}
use borrow.Author.Tests.{leb-true, leb-false, le-leb, lt-leb, eqb-true}
use Rattle.lists.specs.Among.{among}
use Rattle.refusals.specs.Tests.{answer}
use Rattle.request.specs.Sections.{by_name, Walk, ends, not_allowed, whole, after, walk, walked, sections, longest_of}
use Rattle.request.specs.Lengths.{lengths_of}
use Rattle.request.specs.Numbered.{emptied}
use Rattle.request.specs.Read.{judged, checked, limited, read_of, ncts_of}
use Rattle.request.specs.Lengths.{Lengths}
use Rattle.request.proofs.Ordered.{both}
use Rattle.request.proofs.Counted.{span, Counted, counted, spanned, at_most, within}

-- what is left of a walk where the input is cut after n bytes: of the bytes after the sections, those that are not cut off
abbrev cut : ℕ → Walk → Walk
cut n ends = ends
cut n not_allowed = not_allowed
cut n (whole bodies rest) = whole bodies (take (n - span bodies) rest)

drop_take : (m n : ℕ) (l : List ℕ) → drop m (take n l) ≡ take (n - m) (drop m l)
drop_take zero n l = rw (sub-zero n)
drop_take (suc m) zero l = rw (zero-sub (suc m))
drop_take (suc m) (suc n) [] = sym (take-nil (suc n - suc m))
drop_take (suc m) (suc n) (x ∷ l) = simp unary_clauses (drop_take m n l)

cut_after : (body : List ℕ) (m : ℕ) (w : Walk) → after body (cut m w) ≡ cut (suc (length body) + m) (after body w)
cut_after body m ends = refl
cut_after body m not_allowed = refl
cut_after body m (whole bodies rest) =
    let e : suc (length body) + m - (suc (length body) + span bodies) ≡ m - span bodies = omega arith in
    rw e

walk_cut : (cs : List (List ℕ)) (n : ℕ) (s : List ℕ) → longest_of cs ≤ n → walk cs (take n s) ≡ cut n (walk cs s)
unfolding walk
walk_cut [] n s h = rw (sub-zero n)
walk_cut (c ∷ cs) zero s h = absurd (omega arith)
walk_cut (c ∷ cs) (suc n) [] h = refl
walk_cut (c ∷ cs) (suc n) (x ∷ s) h = go (among x c) refl (leb x (length s)) refl (walk_cut cs (n - x) (drop x s))
  where
    go : (a : Bool) → among x c ≡ a → (t : Bool) → leb x (length s) ≡ t → (longest_of cs ≤ n - x → walk cs (take (n - x) (drop x s)) ≡ cut (n - x) (walk cs (drop x s)))
        → cond a (cond (leb x (length (take n s))) (after (take x (take n s)) (walk cs (drop x (take n s)))) ends) not_allowed
        ≡ cut (suc n) (cond a (cond t (after (take x s) (walk cs (drop x s))) ends) not_allowed)
    go false e t f ih = refl
    go true e false f ih = rw (lt-leb x (length (take n s)) (omega (arith, length-take n s, leb-false x (length s) f)))
    go true e true f ih =
        let l : x ≤ length s = leb-true x (length s) f in
        let k : x ≤ n = omega (arith, at_most x c e) in
        let b : length (take x s) ≡ x = length-take-le x s l in
        let q : suc n ≡ suc (length (take x s)) + (n - x) = omega arith in
        rw (le-leb x (length (take n s)) (omega (arith, length-take n s)), take-take x n s, drop_take x n s, ih (omega (arith, at_most x c e)), q)
        (cut_after (take x s) (n - x) (walk cs (drop x s)))

-- bytes stay after the sections, if there were some
some_left : (n : ℕ) (l : List ℕ) → 0 < n → eqb (length (take n l)) 0 ≡ eqb (length l) 0
some_left zero l h = absurd (omega arith)
some_left (suc n) [] h = refl
some_left (suc n) (x ∷ l) h = rw (eqb-suc-zero (length (take n l)), eqb-suc-zero (length l))

checked_cut : (cs : List (List ℕ)) (n k : ℕ) (w : Walk) → longest_of cs < n → Counted cs k w → checked (cut n w) ≡ checked w
checked_cut cs n k ends h c = refl
checked_cut cs n k not_allowed h c = refl
checked_cut cs n k (whole bodies rest) h c = rw (some_left (n - span bodies) rest (omega (arith, within cs bodies c.1)))

-- with no byte after the sections the length is one of theirs
walked_length : (cs : List (List ℕ)) (k : ℕ) (bodies : List (List ℕ)) → Counted cs k (whole bodies []) → among k (lengths_of cs) ≡ true
walked_length cs k bodies c = let q : k ≡ span bodies = omega arith in rw q (spanned cs bodies c.1)

-- an input that is not refused has no bytes after its sections, so its length is one of theirs
one_of_them : (cs : List (List ℕ)) (k : ℕ) (w : Walk) → Counted cs k w → (checked w).refusal ≡ 0 → among k (lengths_of cs) ≡ true
one_of_them cs k ends c z = absurd (omega arith)
one_of_them cs k not_allowed c z = absurd (omega arith)
one_of_them cs k (whole bodies rest) c z = go (eqb (length rest) 0) refl z
  where
    go : (b : Bool) → eqb (length rest) 0 ≡ b → (answer (cond (not b) 3 0) emptied (judged (by_name bodies))).refusal ≡ 0 → among k (lengths_of cs) ≡ true
    go true e z =
        let l : length rest ≡ 0 = eqb-true (length rest) 0 e in
        walked_length cs k bodies (omega arith, c.1)
    go false e z = absurd (omega arith)

read_cut : (input : List ℕ) (n : ℕ) → longest_of sections < n → read_of (take n input) ≡ read_of input
unfolding read_of walked
read_cut input n h =
    ap (λ (w : Walk). limited (checked w)) (walk_cut sections n input (omega arith)) ∙ ap limited (checked_cut sections n (length input) (walk sections input) h (counted sections input))

ncts_cut : (input : List ℕ) (n : ℕ) → longest_of sections < n → ncts_of (take n input) ≡ ncts_of input
unfolding ncts_of
ncts_cut input n h = rw (read_cut input n h)

pub lengths : (input : List ℕ) → Lengths input
unfolding read_of walked
lengths input =
    record {
      accepted = λ z. one_of_them sections (length input) (walk sections input) (counted sections input) (both (checked (walk sections input)) z).0;
      walked = λ table bodies e. walked_length table (length input) bodies (subst (Counted table (length input)) e (counted table input));
      read = λ n h. read_cut input n h;
      ncts = λ n h. ncts_cut input n h;
    }
