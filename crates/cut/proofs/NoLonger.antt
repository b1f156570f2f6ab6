-- A list that is planned again after some cuts is no longer: elsewhere than in the three registers a cut leaves each as it was or as it is
-- to be, so that no other register differs. Assumes nothing.
use mathlib.Core.Path.{◌≡◌, refl, sym, ap, ap₂, subst, ◌∙◌}
use mathlib.Core.Logic.{◌⊎◌, inl, inr, ⊎_elim}
use mathlib.Core.Bool.{Bool, true, false, false≢true, cond, not}
use mathlib.Core.List.{List, [], ◌∷◌}
use Prim.Native.Nat.{ℕ, suc, ◌+◌, ◌<◌, ◌≤◌}
use native.Mathlib.Omega.{arith}
use lib.Dec.{eqb, ltb}
use lib.ListN.{length, get_or, take}
use borrow.Author.Tests.{eqb-true, eq-eqb, not-true}
use Rattle.lists.specs.Among.{among}
use Rattle.lists.specs.Find.{every}
use Rattle.lists.proofs.Both.{both_left, both_right, neither_left}
use Rattle.map.specs.Map as reg
use Rattle.chip.specs.declared.Chip.{Chip}
use Rattle.chip.specs.Machine.{Write, audio, packets, up, holds_of}
use Rattle.writes.specs.Steps.{Step, ◌raising◌, steps}
use Rattle.writes.specs.List.{written, middle_of, the_three, stays, write_list, is_written, finished, finished_image, ready}
use Rattle.writes.specs.Fewer.{differs, differing}
use Rattle.writes.proofs.Last.{last, read}
use Rattle.writes.proofs.Image.{image_at}
use Rattle.writes.proofs.Counted.{no_more_of}
use Rattle.writes.proofs.Fewer.{plain, raises_none, every_plain, left_steps, steps_left, by_steps, nine_of_three, fewer}
use Rattle.cut.specs.Run.{Event, cut, writes_of, writes_by}
use Rattle.cut.specs.Demand.{Cut, cuts, PlannedAgain}
use Rattle.cut.specs.Within.{NoLonger}
use Rattle.cut.proofs.AtEveryCut.{Ready, Near, near_self, finished_near, take_map, cut_acts, stand}
use Rattle.cut.proofs.ClausesOfRuns.{alike}
use Rattle.cut.proofs.DemandOfGoodLists.{near_run}
use Rattle.cut.proofs.DemandOfWriteList.{plain_those, fewer_good, left_fair}
use Rattle.cut.proofs.ShorterWithin.{every_take}

-- the last of some plain steps at a register: none, or one that raises nothing
plain_last : (a : ℕ) → among a the_three ≡ false → (is : List Step) (o : ℕ) → every plain is ≡ true
    → (last a is o ≡ o) ⊎ ((last a is o ≡ 1) × (is_written a ≡ true))
plain_last a n [] o t = inl refl
plain_last a n (i ∷ is) o t =
    ⊎_elim (λ e. go (eqb a i.register) refl e) (λ e. inr e) (plain_last a n is (cond (eqb a i.register) (suc i.raised) o) (both_right (plain i) _ t))
  where
    p : plain i ≡ true
    p = both_left (plain i) _ t

    go : (r : Bool) → eqb a i.register ≡ r → last a is (cond (eqb a i.register) (suc i.raised) o) ≡ cond (eqb a i.register) (suc i.raised) o
        → (last a (i ∷ is) o ≡ o) ⊎ ((last a (i ∷ is) o ≡ 1) × (is_written a ≡ true))
    go true q e =
        let z : a ≡ i.register = eqb-true _ _ q in
        let w : is_written i.register ≡ true = both_left (is_written i.register) _ (both_right (ltb i.register 256) _ p) in
        inr (e ∙ rw q (ap suc (raises_none i p (ap (λ (b : ℕ). among b the_three) (sym z) ∙ n))), ap is_written z ∙ w)
    go false q e = inl (e ∙ rw q)

module _ (want : ℕ → ℕ) where
  -- a step that raises nothing leaves the finished byte
  plain_finished : (image : List ℕ) (a : ℕ) → among a the_three ≡ false → is_written a ≡ true
      → (written want image (a raising 0)).value ≡ finished want image a
  unfolding finished written
  plain_finished image a n w = let m : eqb a reg.av_mute ≡ false = neither_left _ _ n in rw (w, m)

  all_plain : (image : List ℕ) → every plain (steps (left_steps want image)) ≡ true
  all_plain image =
      subst (λ (is : List Step). every plain is ≡ true) (steps_left want image (middle_of want image))
      (plain_those (λ i. stays image (written want image i)) (steps (middle_of want image)) (every_plain (up audio (holds_of packets image))))

  -- a cut leaves a register as it was, or as it is to be
  as_was_or_will : (u : Chip) → Ready u.image → (es : List Event) → writes_of es ≡ write_list want u.image → (k a : ℕ) → a < 256
      → among a the_three ≡ false
      → let t : Chip = cut es u k in
      (get_or t.image a 0 ≡ get_or u.image a 0) ⊎ (get_or t.image a 0 ≡ finished want u.image a)
  as_was_or_will u r es runs k a h n =
      let f : Step → Write = written want u.image in
      let is : List Step = steps (left_steps want u.image) in
      let j : ℕ = writes_by es k in
      let x = stand left_steps fewer_good want u r (take j is) a h in
      let e : get_or (cut es u k).image a 0 ≡ read f a (last a (take j is) 0) (get_or u.image a 0) =
      ap (λ (l : List ℕ). get_or l a 0) (alike left_steps fewer_good want u r es (runs ∙ by_steps want u.image) k).image
      ∙ rw (cut_acts left_steps fewer_good want u r j, take_map f j is) x in
      ⊎_elim (λ q. inl (e ∙ ap (λ (o : ℕ). read f a o (get_or u.image a 0)) q))
      (λ q. inr (e ∙ ap (λ (o : ℕ). read f a o (get_or u.image a 0)) q.0 ∙ plain_finished u.image a n q.1))
      (plain_last a n (take j is) 0 (every_take plain is j (all_plain u.image)))

  -- after some cuts a register is as it was at the start, or as it is to be
  module _ (s : Chip) (r : Ready s.image) where
    abbrev Settled : Chip → Type 0
    Settled u =
        (a : ℕ) → a < 256 → among a the_three ≡ false → (get_or u.image a 0 ≡ get_or s.image a 0) ⊎ (get_or u.image a 0 ≡ finished want s.image a)

    abbrev planned : List ℕ → List Write
    planned = write_list want

    near_next : (u : Chip) (es : List Event) (k : ℕ) → writes_of es ≡ planned u.image → Near s u → Near s (cut es u k)
    near_next u es k e near = near_run left_steps fewer_good left_fair want s u es k (e ∙ by_steps want u.image) near

    settled_next : (u : Chip) (es : List Event) (k : ℕ) → writes_of es ≡ planned u.image → Near s u → Settled u → Settled (cut es u k)
    settled_next u es k runs near t a h n =
        ⊎_elim (λ e. ⊎_elim (λ q. inl (e ∙ q)) (λ q. inr (e ∙ q)) (t a h n)) (λ e. inr (e ∙ finished_near want s u near a h))
        (as_was_or_will u near.ready es runs k a h n)

    after : (cs : List Cut) (u : Chip) → PlannedAgain planned cs u → Near s u → Settled u → Near s (cuts cs u) × Settled (cuts cs u)
    after [] u p near t = (near, t)
    after (c ∷ cs) u p near t =
        after cs (cut c.events u c.place) p.1 (near_next u c.events c.place p.0 near)
        (settled_next u c.events c.place p.0 near t)

    -- so a register that differs there differed at the start
    differed : (u : Chip) → Near s u → Settled u → (a : ℕ) → a < 256 → differs u.image (finished_image want u.image) a ≡ true
        → differs s.image (finished_image want s.image) a ≡ true
    differed u near t a h d =
        let n : among a the_three ≡ false = not-true (among a the_three) (both_left (not (among a the_three)) _ d) in
        let m : not (eqb (get_or (finished_image want u.image) a 0) (get_or u.image a 0)) ≡ true = both_right (not (among a the_three)) _ d in
        let same : get_or (finished_image want u.image) a 0 ≡ get_or (finished_image want s.image) a 0 =
        image_at want u.image a h ∙ finished_near want s u near a h ∙ sym (image_at want s.image a h) in
        rw n (⊎_elim (λ e. ap₂ (λ (x y : ℕ). not (eqb x y)) (sym same) (sym e) ∙ m)
        (λ e. absurd (false≢true (sym (ap not (eq-eqb _ _ (same ∙ image_at want s.image a h ∙ sym e))) ∙ m))) (t a h n))

    counted : (image : List ℕ) → length (planned image) ≡ differing image (finished_image want image) + 9
    counted image =
        (fewer want image).count
        ∙ ap (λ (n : ℕ). differing image (finished_image want image) + n) (nine_of_three want image)

    pub no_longer : NoLonger planned s
    no_longer cs q =
        let u : Chip = cuts cs s in
        let p = after cs s q (near_self s r) (λ a h n. inl refl) in
        let m : differing u.image (finished_image want u.image) ≤ differing s.image (finished_image want s.image) =
        no_more_of (differs s.image (finished_image want s.image)) (differs u.image (finished_image want u.image)) 0 256
        (λ a lo hi. differed u p.0 p.1 a (omega (arith, hi))) in
        omega (arith, m, counted u.image, counted s.image)

pub shorter : (want : ℕ → ℕ) (s : Chip) → length s.image ≡ 256 → ready s.image ≡ true → NoLonger (write_list want) s
shorter want s whole clear = no_longer want s (record { whole = whole; holds = clear })
