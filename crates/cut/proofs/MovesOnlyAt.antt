-- Values that move only at some events. A `View` goes by a status, a number that stands for what a state has up; a walk over a list of
-- events computes, since it sees nothing of the states. Assumes nothing.
use mathlib.Core.Path.{◌≡◌, refl, sym, ap, ap₂, ◌∙◌}
use mathlib.Core.Logic.{◌⊎◌, inl, inr, ⊎_elim, ⊎_map}
use mathlib.Core.Bool.{false≢true, Bool, true, false, ◌&&◌}
use mathlib.Core.List.{List, [], ◌∷◌, map}
use Prim.Native.Nat.{ℕ, zero, suc}
use lib.ListN.{length, take}
use lib.Seq.{take-length}

-- how an event moves the status, and whether the value stays under it
pub record View (E : Type 0) : Type 0 where
  pub next : ℕ → E → ℕ
  pub quiet : ℕ → E → Bool

module _ {E : Type 0} (L : View E) where
  -- the status after a list of events
  abbrev pub nexts : ℕ → List E → ℕ
  nexts n [] = n
  nexts n (e ∷ es) = nexts (L.next n e) es

  -- every event is quiet, but perhaps one if `may`
  abbrev pub walk : Bool → ℕ → List E → Bool
  walk may n [] = true
  walk may n (e ∷ es) = elim (L.quiet n e) [ true ↦ walk may (L.next n e) es | false ↦ may && walk false (L.next n e) es ]

  -- what a walk that passes says of the first event
  pub first : (may : Bool) (n : ℕ) (e : E) (es : List E) → walk may n (e ∷ es) ≡ true
      → ((L.quiet n e ≡ true) × (walk may (L.next n e) es ≡ true)) ⊎ ((may ≡ true) × (walk false (L.next n e) es ≡ true))
  first may n e es = go (L.quiet n e) may
    where
      go : (q m : Bool) → elim q [ true ↦ walk m (L.next n e) es | false ↦ m && walk false (L.next n e) es ] ≡ true
          → ((q ≡ true) × (walk m (L.next n e) es ≡ true)) ⊎ ((m ≡ true) × (walk false (L.next n e) es ≡ true))
      go true m t = inl (refl, t)
      go false true t = inr (refl, t)
      go false false t = absurd (false≢true t)

  -- events that the view cannot tell apart
  module _ {D : Type 0} (f h : D → E) (next= : (n : ℕ) (d : D) → L.next n (f d) ≡ L.next n (h d))
      (quiet= : (n : ℕ) (d : D) → L.quiet n (f d) ≡ L.quiet n (h d)) where
    pub nexts_map : (n : ℕ) (ds : List D) → nexts n (map f ds) ≡ nexts n (map h ds)
    nexts_map n [] = refl
    nexts_map n (d ∷ ds) = ap (λ (m : ℕ). nexts m (map f ds)) (next= n d) ∙ nexts_map (L.next n (h d)) ds

    pub walk_map : (may : Bool) (n : ℕ) (ds : List D) → walk may n (map f ds) ≡ walk may n (map h ds)
    walk_map may n [] = refl
    walk_map may n (d ∷ ds) =
        ap₂ (λ (m : ℕ) (q : Bool). turn m q (map f ds)) (next= n d) (quiet= n d)
        ∙ go (L.quiet n (h d)) (walk_map may (L.next n (h d)) ds) (walk_map false (L.next n (h d)) ds)
      where
        turn : ℕ → Bool → List E → Bool
        turn m q es = elim q [ true ↦ walk may m es | false ↦ may && walk false m es ]

        go : (q : Bool) → walk may (L.next n (h d)) (map f ds) ≡ walk may (L.next n (h d)) (map h ds)
            → walk false (L.next n (h d)) (map f ds) ≡ walk false (L.next n (h d)) (map h ds)
            → turn (L.next n (h d)) q (map f ds) ≡ turn (L.next n (h d)) q (map h ds)
        go true p q = p
        go false p q = ap (λ (b : Bool). may && b) q

-- a machine: what an event makes of a state
module _ {S E : Type 0} (act : E → S → S) where
  abbrev pub acts : List E → S → S
  acts [] s = s
  acts (e ∷ es) s = acts es (act e s)

  -- the view tells the truth of the value `shown`, in states with `Inv`
  pub record Faithful (L : View E) (Inv : S → Type 0) (status : S → ℕ) (shown : S → List ℕ) : Type 0 where
    pub lasts : (e : E) (s : S) → Inv s → Inv (act e s)
    pub tracks : (e : E) (s : S) → Inv s → status (act e s) ≡ L.next (status s) e
    pub keeps : (e : E) (s : S) → Inv s → L.quiet (status s) e ≡ true → shown (act e s) ≡ shown s

  module _ {L : View E} {Inv : S → Type 0} {status : S → ℕ} {shown : S → List ℕ} (F : Faithful L Inv status shown) where
    pub status_acts : (es : List E) (s : S) → Inv s → status (acts es s) ≡ nexts L (status s) es
    status_acts [] s i = refl
    status_acts (e ∷ es) s i = status_acts es (act e s) (F.lasts e s i) ∙ ap (λ (m : ℕ). nexts L m es) (F.tracks e s i)

    -- a walk with no exception: the value stays at every cut
    pub calm : (es : List E) (s : S) (k : ℕ) → Inv s → walk L false (status s) es ≡ true → shown (acts (take k es) s) ≡ shown s
    calm es s zero i t = refl
    calm [] s (suc k) i t = refl
    calm (e ∷ es) s (suc k) i t =
        ⊎_elim (λ h. calm es (act e s) k (F.lasts e s i) (rw (F.tracks e s i) h.1) ∙ F.keeps e s i h.0)
        (λ h. absurd (false≢true h.0)) (first L false (status s) e es t)

    -- a walk with one exception: at every cut the value is as it began or as it ends
    pub once : (es : List E) (s : S) (k : ℕ) → Inv s → walk L true (status s) es ≡ true
        → (shown (acts (take k es) s) ≡ shown s) ⊎ (shown (acts (take k es) s) ≡ shown (acts es s))
    once es s zero i t = inl refl
    once [] s (suc k) i t = inl refl
    once (e ∷ es) s (suc k) i t =
        let i' : Inv (act e s) = F.lasts e s i in
        ⊎_elim (λ h. ⊎_map (λ p. p ∙ F.keeps e s i h.0) (λ p. p) (once es (act e s) k i' (rw (F.tracks e s i) h.1)))
        (λ h. let c : walk L false (status (act e s)) es ≡ true = rw (F.tracks e s i) h.1 in
        inr (calm es (act e s) k i' c ∙ sym (rw take-length at (calm es (act e s) (length es) i' c))))
        (first L true (status s) e es t)
