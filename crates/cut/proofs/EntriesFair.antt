-- Each entry of the full list, and so of the write list, is fair on the image that it was planned on. Assumes nothing.
use mathlib.Core.Path.{◌≡◌, refl, sym, ap, subst, ◌∙◌}
use mathlib.Core.Bool.{Bool, true, false, ◌||◌}
use mathlib.Core.List.{List, [], ◌∷◌}
use Prim.Native.Nat.{ℕ, zero, suc, ◌<◌}
use native.Mathlib.Nat.{not-suc-le-zero, le_of_suc-le-suc}
use lib.Dec.{eqb, ltb}
use lib.ListN.{length, get_or, length-map, get_or-map}
use borrow.Author.Tests.{eq-eqb, ltb-true}
use Rattle.lists.specs.Among.{among}
use Rattle.lists.proofs.Find.{every_at}
use Rattle.lists.proofs.Those.{of_those}
use Rattle.chip.specs.Machine.{Write, ◌gets◌, audio, packets, up, holds_of}
use Rattle.writes.specs.List.{full_list, stays, write_list}
use Rattle.writes.specs.Order.{addresses}
use Rattle.writes.proofs.InOrder.{inside, is_listed}
use Rattle.writes.proofs.Carries.{entries}
use Rattle.cut.specs.Run.{Fair}

among_at : (l : List ℕ) (k : ℕ) → k < length l → among (get_or l k 0) l ≡ true
among_at [] k h = absurd (not-suc-le-zero h)
among_at (x ∷ xs) zero h = rw (eq-eqb x x refl)
among_at (x ∷ xs) (suc k) h = go (eqb (get_or xs k 0) x) (among_at xs k (le_of_suc-le-suc h))
  where
    go : (b : Bool) {c : Bool} → c ≡ true → (b || c) ≡ true
    go true e = refl
    go false e = e

pub full_fair : (want : ℕ → ℕ) (image : List ℕ) (k : ℕ) → k < length (full_list want image)
    → Fair image (get_or (full_list want image) k (0 gets 0))
full_fair want image k h =
    let ws : List Write = full_list want image in
    let w : Write = get_or ws k (0 gets 0) in
    let at : get_or (addresses ws) k 0 ≡ w.address = get_or-map (λ (w : Write). w.address) ws k (0 gets 0) in
    let l : k < length (addresses ws) = rw (length-map ws (λ (w : Write). w.address)) h in
    let small : w.address < 256 =
    subst (λ (a : ℕ). a < 256) at (ltb-true _ _ (every_at (λ a. ltb a 256) (addresses ws) k 0 (inside want image (up audio (holds_of packets image))) l)) in
    let c = entries want image k h in
    record {
      its_register = sym (is_listed want image w.address small) ∙ ap (λ (a : ℕ). among a (addresses ws)) (sym at) ∙ among_at (addresses ws) k l;
      its_mandated = c.its_mandated;
      its_free = c.its_free;
    }

pub each_fair : (want : ℕ → ℕ) (image : List ℕ) (k : ℕ) → k < length (write_list want image)
    → Fair image (get_or (write_list want image) k (0 gets 0))
each_fair want image = of_those (Fair image) (stays image) (0 gets 0) (full_list want image) (full_fair want image)
