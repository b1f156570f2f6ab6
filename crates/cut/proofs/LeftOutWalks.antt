-- A list with some of its events left out: if what is left out leaves the status, a walk that passes still passes, and ends in the same
-- status. Assumes nothing.
use mathlib.Core.Path.{◌≡◌, refl, sym, ap, ◌∙◌}
use mathlib.Core.Bool.{false≢true, Bool, true, false, ◌&&◌, cond}
use mathlib.Core.List.{List, [], ◌∷◌, ◌++◌, map}
use Prim.Native.Nat.{ℕ}
use Rattle.lists.specs.Those.{those}
use Rattle.cut.proofs.MovesOnlyAt.{View, nexts, walk}

module _ {E : Type 0} (L : View E) where
  -- what passes with no exception passes with one
  weaken : (may : Bool) (n : ℕ) (es : List E) → walk L false n es ≡ true → walk L may n es ≡ true
  weaken may n [] t = refl
  weaken may n (e ∷ es) t = go (L.quiet n e) t (weaken may (L.next n e) es)
    where
      go : (q : Bool) → elim q [ true ↦ walk L false (L.next n e) es | false ↦ false && walk L false (L.next n e) es ] ≡ true
          → (walk L false (L.next n e) es ≡ true → walk L may (L.next n e) es ≡ true)
          → elim q [ true ↦ walk L may (L.next n e) es | false ↦ may && walk L false (L.next n e) es ] ≡ true
      go true t ih = ih t
      go false t ih = absurd (false≢true t)

  -- D's entries are events by h; those that fail the test leave the status
  module _ {D : Type 0} (h : D → E) (test : D → Bool) (idle : (d : D) → test d ≡ false → (n : ℕ) → L.next n (h d) ≡ n) where
    pub nexts_those : (n : ℕ) (ds : List D) → nexts L n (map h (those test ds)) ≡ nexts L n (map h ds)
    nexts_those n [] = refl
    nexts_those n (d ∷ ds) = go (test d) refl (λ m. nexts_those m ds)
      where
        go : (c : Bool) → test d ≡ c → ((m : ℕ) → nexts L m (map h (those test ds)) ≡ nexts L m (map h ds))
            → nexts L n (map h (cond c (d ∷ []) [] ++ those test ds)) ≡ nexts L n (map h (d ∷ ds))
        go true e ih = ih (L.next n (h d))
        go false e ih = ih n ∙ ap (λ (m : ℕ). nexts L m (map h ds)) (sym (idle d e n))

    pub walk_those : (may : Bool) (n : ℕ) (ds : List D) → walk L may n (map h ds) ≡ true → walk L may n (map h (those test ds)) ≡ true
    walk_those may n [] t = refl
    walk_those may n (d ∷ ds) t = go (test d) refl (L.quiet n (h d)) refl may (λ b m. walk_those b m ds) t
      where
        go : (c : Bool) → test d ≡ c → (q : Bool) → L.quiet n (h d) ≡ q → (may : Bool)
            → ((b : Bool) (m : ℕ) → walk L b m (map h ds) ≡ true → walk L b m (map h (those test ds)) ≡ true)
            → elim q [ true ↦ walk L may (L.next n (h d)) (map h ds) | false ↦ may && walk L false (L.next n (h d)) (map h ds) ] ≡ true
            → walk L may n (map h (cond c (d ∷ []) [] ++ those test ds)) ≡ true
        go true e true f may ih t = rw f (ih may _ t)
        go true e false f true ih t = rw f (ih false _ t)
        go true e false f false ih t = absurd (false≢true t)
        go false e true f may ih t = ih may n (rw (idle d e n) at t)
        go false e false f true ih t = weaken true n (map h (those test ds)) (ih false n (rw (idle d e n) at t))
        go false e false f false ih t = absurd (false≢true t)
