-- What a walk finds is what stands in the input, over any sections. Assumes nothing.
--     joined      bodies, and then what the rest of the walk finds
--     begun       a walk over an input that begins with whole sections
--     found       what stands in the input, by what the walk finds
--     walks       both ways
use mathlib.Core.Path.{◌≡◌, refl, ap, subst, ◌∙◌}
use mathlib.Core.Logic.{◌⊎◌, inl, inr}
use mathlib.Core.Bool.{Bool, true, false, false≢true, cond}
use mathlib.Core.List.{List, [], ◌∷◌, ◌++◌}
use Prim.Native.Nat.{ℕ, suc, ◌≤◌, ◌<◌}
use native.Mathlib.Nat.{not-suc-le-zero, le_of_suc-le-suc}
use native.Mathlib.Omega.{arith}
use lib.Dec.{leb}
use lib.ListN.{length, take, drop, get_or, length-append, take-append-drop}
use lib.Seq.{length-take-le, take-append_seam, drop-append_seam, drop-cons, take-length, drop-length}
use borrow.Author.Tests.{leb-true, leb-false, le-leb, lt-leb}
use Rattle.lists.specs.Among.{among}
use Rattle.lists.proofs.Both.{both_left, both_right}
use Rattle.request.specs.Sections.{Walk, ends, not_allowed, whole, after, walk}
use Rattle.request.specs.Bytes.{laid}
use Rattle.request.specs.Walks.{fits, Begun, InputEnds, NotAllowed, Walks}

abbrev pub joined : List (List ℕ) → Walk → Walk
joined [] w = w
joined (b ∷ bs) w = after b (joined bs w)

pub joined_ends : (bodies : List (List ℕ)) → joined bodies ends ≡ ends
joined_ends [] = refl
joined_ends (b ∷ bs) = rw (joined_ends bs)

pub joined_refused : (bodies : List (List ℕ)) → joined bodies not_allowed ≡ not_allowed
joined_refused [] = refl
joined_refused (b ∷ bs) = rw (joined_refused bs)

pub joined_whole : (bodies : List (List ℕ)) (rest : List ℕ) → joined bodies (whole [] rest) ≡ whole bodies rest
joined_whole [] rest = refl
joined_whole (b ∷ bs) rest = rw (joined_whole bs rest)

-- a body more
pub joined_more : (bodies : List (List ℕ)) (b : List ℕ) (w : Walk) → joined (bodies ++ (b ∷ [])) w ≡ joined bodies (after b w)
joined_more [] b w = refl
joined_more (x ∷ bs) b w = rw (joined_more bs b w)

-- a section that is whole
pub one : (c : List ℕ) (cs : List (List ℕ)) (b left : List ℕ) → among (length b) c ≡ true
    → walk (c ∷ cs) (length b ∷ (b ++ left)) ≡ after b (walk cs left)
unfolding walk
one c cs b left t =
    let l : length b ≤ length (b ++ left) = simp length-append (omega arith) in
    rw (t, le-leb (length b) (length (b ++ left)) l, take-append_seam b left, drop-append_seam b left)

pub begun : (cs bodies : List (List ℕ)) (left : List ℕ) → length bodies ≤ length cs → fits (take (length bodies) cs) bodies ≡ true
    → walk cs (laid bodies left) ≡ joined bodies (walk (drop (length bodies) cs) left)
begun cs [] left h f = refl
begun [] (b ∷ bs) left h f = absurd (not-suc-le-zero h)
begun (c ∷ cs) (b ∷ bs) left h f =
    one c cs b (laid bs left) (both_left (among (length b) c) _ f)
    ∙ ap (after b) (begun cs bs left (le_of_suc-le-suc h) (both_right (among (length b) c) _ f))

-- what fits has a body for each section
pub as_many : (cs bodies : List (List ℕ)) → fits cs bodies ≡ true → length bodies ≡ length cs
as_many [] [] t = refl
as_many [] (b ∷ bs) t = absurd (false≢true t)
as_many (c ∷ cs) [] t = absurd (false≢true t)
as_many (c ∷ cs) (b ∷ bs) t = ap suc (as_many cs bs (both_right (among (length b) c) _ t))

-- what the next section says, where it is not whole
pub none_left : (c : List ℕ) (cs : List (List ℕ)) → walk (c ∷ cs) [] ≡ ends
unfolding walk
none_left c cs = refl

pub cut_short : (c : List ℕ) (cs : List (List ℕ)) (n : ℕ) (left : List ℕ) → among n c ≡ true → length left < n → walk (c ∷ cs) (n ∷ left) ≡ ends
unfolding walk
cut_short c cs n left t h = rw (t, lt-leb n (length left) h)

pub not_counted : (c : List ℕ) (cs : List (List ℕ)) (n : ℕ) (left : List ℕ) → among n c ≡ false → walk (c ∷ cs) (n ∷ left) ≡ not_allowed
unfolding walk
not_counted c cs n left t = rw t

module _ (table : List (List ℕ)) (input : List ℕ) where
  -- the counts that the next section allows, and the sections after it
  abbrev next_in : List (List ℕ) → List ℕ
  next_in bodies = get_or table (length bodies) []

  abbrev more_in : List (List ℕ) → List (List ℕ)
  more_in bodies = drop (suc (length bodies)) table

  from_next : (b : Begun table input) → walk table input ≡ joined b.bodies (walk (next_in b.bodies ∷ more_in b.bodies) b.left)
  from_next b =
      ap (walk table) b.made ∙ begun table b.bodies b.left (omega (arith, b.some)) b.fitting
      ∙ ap (λ (t : List (List ℕ)). joined b.bodies (walk t b.left)) (drop-cons table (length b.bodies) [] b.some)

  ends_there : InputEnds table input → walk table input ≡ ends
  ends_there e = from_next e.begun ∙ go e.begun.bodies e.begun.left e.there
    where
      go : (bodies : List (List ℕ)) (left : List ℕ)
          → (length left ≡ 0) ⊎ ((among (get_or left 0 0) (next_in bodies) ≡ true) × (length left ≤ get_or left 0 0))
          → joined bodies (walk (next_in bodies ∷ more_in bodies) left) ≡ ends
      go bodies [] t = rw (none_left (next_in bodies) (more_in bodies)) (joined_ends bodies)
      go bodies (n ∷ left) (inl z) = absurd (omega arith)
      go bodies (n ∷ left) (inr t) = rw (cut_short (next_in bodies) (more_in bodies) n left t.0 t.1) (joined_ends bodies)

  refused_there : NotAllowed table input → walk table input ≡ not_allowed
  refused_there e = from_next e.begun ∙ go e.begun.bodies e.begun.left e.present e.refused
    where
      go : (bodies : List (List ℕ)) (left : List ℕ) → 0 < length left → among (get_or left 0 0) (next_in bodies) ≡ false
          → joined bodies (walk (next_in bodies ∷ more_in bodies) left) ≡ not_allowed
      go bodies [] h t = absurd (omega arith)
      go bodies (n ∷ left) h t = rw (not_counted (next_in bodies) (more_in bodies) n left t) (joined_refused bodies)

  whole_there : (bodies : List (List ℕ)) (rest : List ℕ) → fits table bodies ≡ true → input ≡ laid bodies rest → walk table input ≡ whole bodies rest
  unfolding walk
  whole_there bodies rest f e =
      let l : length bodies ≡ length table = as_many table bodies f in
      let all : take (length bodies) table ≡ table = rw l (take-length table) in
      let none : drop (length bodies) table ≡ [] = rw l (drop-length table) in
      ap (walk table) e ∙ begun table bodies rest (omega arith) (rw all f) ∙ rw none (joined_whole bodies rest)

-- what stands in the input, by what the walk finds
abbrev pub Found : List (List ℕ) → List ℕ → Walk → Type 0
Found table input ends = InputEnds table input
Found table input not_allowed = NotAllowed table input
Found table input (whole bodies rest) = (fits table bodies ≡ true) × (input ≡ laid bodies rest)

module _ (c : List ℕ) (cs : List (List ℕ)) (b : List ℕ) (input : List ℕ) (t : among (length b) c ≡ true) where
  longer : Begun cs input → Begun (c ∷ cs) (length b ∷ (b ++ input))
  longer r =
      record {
        bodies = b ∷ r.bodies;
        left = r.left;
        some = omega (arith, r.some);
        fitting = rw t r.fitting;
        made = ap (λ (l : List ℕ). length b ∷ (b ++ l)) r.made;
      }

  later : (w : Walk) → Found cs input w → Found (c ∷ cs) (length b ∷ (b ++ input)) (after b w)
  unfolding longer
  later ends f = record { begun = longer f.begun; there = f.there }
  later not_allowed f = record { begun = longer f.begun; present = f.present; refused = f.refused }
  later (whole bodies rest) f = (rw t f.0, ap (λ (l : List ℕ). length b ∷ (b ++ l)) f.1)

-- no section is whole yet
at_once_lem : (c : List ℕ) (cs : List (List ℕ)) (input : List ℕ) → Begun (c ∷ cs) input
at_once_lem c cs input = record { bodies = []; left = input; some = omega arith; fitting = refl; made = refl }

pub found : (table : List (List ℕ)) (input : List ℕ) → Found table input (walk table input)
unfolding walk at_once_lem
found [] input = (refl, refl)
found (c ∷ cs) [] = record { begun = at_once_lem c cs []; there = inl refl }
found (c ∷ cs) (n ∷ input) = go (among n c) refl (leb n (length input)) refl (found cs (drop n input))
  where
    go : (a : Bool) → among n c ≡ a → (t : Bool) → leb n (length input) ≡ t → Found cs (drop n input) (walk cs (drop n input))
        → Found (c ∷ cs) (n ∷ input) (cond a (cond t (after (take n input) (walk cs (drop n input))) ends) not_allowed)
    go false e t f more = record { begun = at_once_lem c cs (n ∷ input); present = omega arith; refused = e }
    go true e false f more = record { begun = at_once_lem c cs (n ∷ input); there = inr (e, leb-false n (length input) f) }
    go true e true f more =
        let b : length (take n input) ≡ n = length-take-le n input (leb-true n (length input) f) in
        subst (λ (l : List ℕ). Found (c ∷ cs) l (after (take n input) (walk cs (drop n input)))) (rw (b, take-append-drop n input))
        (later c cs (take n input) (drop n input) (rw b e) (walk cs (drop n input)) more)

pub walks : (table : List (List ℕ)) (input : List ℕ) → Walks table input
walks table input =
    record {
      whole = λ bodies rest. ((λ e. subst (Found table input) e (found table input)), λ f. whole_there table input bodies rest f.0 f.1);
      ends = ((λ e. subst (Found table input) e (found table input)), ends_there table input);
      not_allowed = ((λ e. subst (Found table input) e (found table input)), refused_there table input);
    }
