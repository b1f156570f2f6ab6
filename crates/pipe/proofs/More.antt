-- What more bytes change of a walk: a count that is not allowed, and bytes after the sections, stay. Assumes nothing.
use mathlib.Core.Path.{◌≡◌, refl, ap}
use mathlib.Core.Bool.{Bool, true, false, cond}
use mathlib.Core.List.{List, [], ◌∷◌, ◌++◌}
use Prim.Native.Nat.{ℕ, ◌≤◌, ◌<◌}
use native.Mathlib.Omega.{arith}
use lib.Dec.{leb}
use lib.ListN.{length, take, drop, length-append, length-drop}
use lib.Seq.{take-append-le, drop-append-le}
use borrow.Author.Tests.{leb-true, leb-false, le-leb}
use Rattle.lists.specs.Among.{among}
use Rattle.request.specs.Sections.{Walk, ends, not_allowed, whole, after, walk, longest_of}
use Rattle.request.proofs.Counted.{at_most}

-- only an end may change
abbrev pub Longer : Walk → List ℕ → Walk → Type 0
Longer ends more w = Unit {0}
Longer not_allowed more w = w ≡ not_allowed
Longer (whole bodies rest) more w = w ≡ whole bodies (rest ++ more)

after_longer : (body more : List ℕ) (v w : Walk) → Longer v more w → Longer (after body v) more (after body w)
after_longer body more ends w h = tt
after_longer body more not_allowed w h = ap (after body) h
after_longer body more (whole bodies rest) w h = ap (after body) h

pub walk_more : (cs : List (List ℕ)) (s more : List ℕ) → Longer (walk cs s) more (walk cs (s ++ more))
unfolding walk
walk_more [] s more = refl
walk_more (c ∷ cs) [] more = tt
walk_more (c ∷ cs) (n ∷ s) more = go (among n c) (leb n (length s)) refl (walk_more cs (drop n s) more)
  where
    go : (a t : Bool) → leb n (length s) ≡ t → Longer (walk cs (drop n s)) more (walk cs (drop n s ++ more))
        → Longer (cond a (cond t (after (take n s) (walk cs (drop n s))) ends) not_allowed) more
        (cond a (cond (leb n (length (s ++ more))) (after (take n (s ++ more)) (walk cs (drop n (s ++ more)))) ends) not_allowed)
    go false t f ih = refl
    go true false f ih = tt
    go true true f ih =
        let l : n ≤ length s = leb-true n (length s) f in
        let k : n ≤ length (s ++ more) = omega (arith, length-append s more) in
        rw (le-leb n (length (s ++ more)) k, take-append-le n s more l, drop-append-le n s more l)
        (after_longer (take n s) more (walk cs (drop n s)) (walk cs (drop n s ++ more)) ih)

-- an input that ends too soon is shorter than the longest
abbrev pub Short : List (List ℕ) → List ℕ → Walk → Type 0
Short cs s ends = length s < longest_of cs
Short cs s not_allowed = Unit {0}
Short cs s (whole bodies rest) = Unit {0}

pub short : (cs : List (List ℕ)) (s : List ℕ) → Short cs s (walk cs s)
unfolding walk
short [] s = tt
short (c ∷ cs) [] = omega arith
short (c ∷ cs) (n ∷ s) = go (among n c) refl (leb n (length s)) refl (walk cs (drop n s)) (short cs (drop n s))
  where
    go : (a : Bool) → among n c ≡ a → (t : Bool) → leb n (length s) ≡ t → (w : Walk) → Short cs (drop n s) w
        → Short (c ∷ cs) (n ∷ s) (cond a (cond t (after (take n s) w) ends) not_allowed)
    go false e t f w h = tt
    go true e false f w h = omega (arith, at_most n c e, leb-false n (length s) f)
    go true e true f ends h = omega (arith, at_most n c e, leb-true n (length s) f, length-drop n s)
    go true e true f not_allowed h = tt
    go true e true f (whole bodies rest) h = tt
