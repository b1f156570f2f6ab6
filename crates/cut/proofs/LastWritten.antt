-- A register holds what was last written to it. Assumes nothing.
use mathlib.Core.Path.{◌≡◌, refl, sym, ap, ◌∙◌}
use mathlib.Core.Bool.{Bool, true, false, cond}
use mathlib.Core.List.{List, [], ◌∷◌, map}
use Prim.Native.Nat.{ℕ, suc, ◌<◌}
use lib.Dec.{eqb}
use lib.ListN.{get_or, set}
use lib.Seq.{get_or-set_same, get_or-set_other}
use borrow.Author.Tests.{eqb-true, eqb-false}
use Rattle.chip.specs.declared.Chip.{Chip}
use Rattle.chip.specs.Machine.{Write}
use Rattle.writes.specs.Steps.{Step, ◌raising◌}
use Rattle.writes.proofs.Last.{last, read}
use Rattle.cut.proofs.MovesOnlyAt.{acts}
use Rattle.cut.proofs.GroupStays.{store, Whole, image_store, size_store}

pub stored_last : (f : Step → Write) → ((i : Step) → (f i).address ≡ i.register) → (a d : ℕ) → a < 256
    → (is : List Step) (s : Chip) (o : ℕ) → Whole s → get_or s.image a 0 ≡ read f a o d
    → get_or (acts store (map f is) s).image a 0 ≡ read f a (last a is o) d
stored_last f p a d h [] s o z e = e
stored_last f p a d h (i ∷ is) s o z e =
    stored_last f p a d h is (store (f i) s) _ (size_store (f i) s z)
    (ap (λ (l : List ℕ). get_or l a 0) (image_store (f i) s) ∙ go (eqb a i.register) refl)
  where
    go : (r : Bool) → eqb a i.register ≡ r
        → get_or (set s.image (f i).address (f i).value) a 0 ≡ read f a (cond r (suc i.raised) o) d
    go true q =
        let e' : a ≡ i.register = eqb-true _ _ q in
        ap (λ (b : ℕ). get_or (set s.image b (f i).value) a 0) (p i ∙ sym e') ∙ get_or-set_same s.image a (f i).value 0 (rw z h)
        ∙ ap (λ (b : ℕ). (f (b raising i.raised)).value) (sym e')
    go false q = get_or-set_other s.image (f i).address a (f i).value 0 (λ z. eqb-false _ _ q (z ∙ p i)) ∙ e
