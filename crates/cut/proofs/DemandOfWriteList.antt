-- The write list meets demand 3, as the full one does: what is left out leaves the holds, and stands in its register already. Assumes
-- nothing.
use mathlib.Core.Path.{◌≡◌, refl, sym, ap, ap₂, subst, fun_ext, ◌∙◌}
use mathlib.Core.Bool.{false≢true, Bool, true, false, cond, ◌&&◌}
use mathlib.Core.List.{List, [], ◌∷◌, ◌++◌, map}
use Prim.Native.Nat.{ℕ, suc, ◌<◌}
use native.Mathlib.Nat.{suc-ne-zero}
use lib.Dec.{eqb}
use lib.ListN.{length, get_or}
use borrow.Author.Tests.{eqb-true, not-false}
use Rattle.lists.specs.Among.{among}
use Rattle.lists.specs.Find.{every}
use Rattle.lists.specs.Those.{those}
use Rattle.lists.proofs.Both.{both_left, both_right}
use Rattle.map.specs.Map as reg
use Rattle.chip.specs.declared.Chip.{Chip}
use Rattle.chip.specs.Machine.{Write, ◌gets◌, Buffer, avi, audio, gc, matrix, packets, converter, up, holds_of}
use Rattle.writes.specs.Steps.{Step, ◌raising◌, steps}
use Rattle.writes.specs.List.{written, the_three, stays, list_with, middle_of, write_list, ready}
use Rattle.writes.proofs.Last.{last, last_zero, read}
use Rattle.writes.proofs.Fewer.{plain, raises_none, every_plain, there_bytes, left_steps, steps_left, by_steps}
use Rattle.cut.specs.Run.{Event, run, Fair}
use Rattle.cut.specs.Vsync.{FinishedRun}
use Rattle.cut.specs.Room.{Room}
use Rattle.cut.specs.Demand.{Same, Demand3}
use Rattle.cut.proofs.MovesOnlyAt.{View, nexts, walk}
use Rattle.cut.proofs.LeftOutWalks.{nexts_those, walk_those}
use Rattle.cut.proofs.GroupStays.{next, view}
use Rattle.cut.proofs.BytesKept.{clean}
use Rattle.cut.proofs.NoneRefused.{tidy}
use Rattle.cut.proofs.CoefficientsInUse.{mark, safe, lead, safe_those, lead_those}
use Rattle.cut.proofs.AtEveryCut.{Ready, Near, Walked, Lowers, elsewhere_or_up, not_hold, Good}
use Rattle.cut.proofs.DemandOfGoodLists.{demand3, room, same_end}
use Rattle.cut.proofs.EntriesFair.{each_fair}
use Rattle.cut.proofs.DemandOfFullList.{planned_good}

-- ---- the last step at a register

-- where no step at it is left out
last_kept : (test : Step → Bool) (a : ℕ) → ((i : Step) → plain i ≡ true → a ≡ i.register → test i ≡ true)
    → (is : List Step) (o : ℕ) → every plain is ≡ true → last a (those test is) o ≡ last a is o
last_kept test a K [] o t = refl
last_kept test a K (i ∷ is) o t = go (test i) refl (eqb a i.register) refl (λ m. last_kept test a K is m (both_right (plain i) _ t))
  where
    go : (c : Bool) → test i ≡ c → (r : Bool) → eqb a i.register ≡ r → ((m : ℕ) → last a (those test is) m ≡ last a is m)
        → last a (cond c (i ∷ []) [] ++ those test is) o ≡ last a is (cond r (suc i.raised) o)
    go true e r f ih = ih (cond (eqb a i.register) (suc i.raised) o) ∙ ap (λ (c : Bool). last a is (cond c (suc i.raised) o)) f
    go false e true f ih = absurd (false≢true (sym e ∙ K i (both_left (plain i) _ t) (eqb-true _ _ f)))
    go false e false f ih = ih o

-- where there is none
none_kept : (test : Step → Bool) (a : ℕ) (is : List Step) (o : ℕ) → last a is o ≡ 0 → last a (those test is) o ≡ 0
none_kept test a [] o e = e
none_kept test a (i ∷ is) o e = pushed (test i) ∙ go (test i) (eqb a i.register) e (none_kept test a is)
  where
    pushed : (c : Bool) → last a (cond c (i ∷ []) [] ++ those test is) o
        ≡ cond c (last a (those test is) (cond (eqb a i.register) (suc i.raised) o)) (last a (those test is) o)
    pushed true = refl
    pushed false = refl

    go : (c r : Bool) → last a is (cond r (suc i.raised) o) ≡ 0 → ((m : ℕ) → last a is m ≡ 0 → last a (those test is) m ≡ 0)
        → cond c (last a (those test is) (cond r (suc i.raised) o)) (last a (those test is) o) ≡ 0
    go true r e ih = ih (cond r (suc i.raised) o) e
    go false true e ih = absurd (suc-ne-zero i.raised (last_zero a is (suc i.raised) e))
    go false false e ih = ih o e

-- where the byte stands already it does not matter which steps are left out
pub last_there : (f : Step → Write) (a d : ℕ) → among a the_three ≡ false → (f (a raising 0)).value ≡ d
    → (is : List Step) (o : ℕ) → every plain is ≡ true → read f a o d ≡ d → read f a (last a is o) d ≡ d
last_there f a d n e [] o t h = h
last_there f a d n e (i ∷ is) o t h = last_there f a d n e is _ (both_right (plain i) _ t) (go (eqb a i.register) refl)
  where
    go : (r : Bool) → eqb a i.register ≡ r → read f a (cond r (suc i.raised) o) d ≡ d
    go true z =
        ap (λ (x : ℕ). (f (a raising x)).value)
        (raises_none i (both_left (plain i) _ t) (ap (λ (b : ℕ). among b the_three) (sym (eqb-true a i.register z)) ∙ n)) ∙ e
    go false z = h

pub plain_those : (test : Step → Bool) (is : List Step) → every plain is ≡ true → every plain (those test is) ≡ true
plain_those test [] t = refl
plain_those test (i ∷ is) t = go (test i) (plain_those test is (both_right (plain i) _ t))
  where
    go : (c : Bool) → every plain (those test is) ≡ true → every plain (cond c (i ∷ []) [] ++ those test is) ≡ true
    go true h = rw (both_left (plain i) _ t) h
    go false h = h

module _ (want : ℕ → ℕ) (image : List ℕ) where
  abbrev f : Step → Write
  f = written want image

  abbrev test : Step → Bool
  test i = stays image (f i)

  -- a step to one of the three stays
  three_stays : (i : Step) → among i.register the_three ≡ true → test i ≡ true
  unfolding written
  three_stays i e = rw e

  last_left : (is : List Step) → every plain is ≡ true → (a : ℕ)
      → read f a (last a (those test is) 0) (get_or image a 0) ≡ read f a (last a is 0) (get_or image a 0)
  unfolding written
  last_left is t a = go (among a the_three) refl (eqb (f (a raising 0)).value (get_or image a 0)) refl
    where
      go : (c : Bool) → among a the_three ≡ c → (q : Bool) → eqb (f (a raising 0)).value (get_or image a 0) ≡ q
          → read f a (last a (those test is) 0) (get_or image a 0) ≡ read f a (last a is 0) (get_or image a 0)
      go true e q z =
          ap (λ (o : ℕ). read f a o (get_or image a 0))
          (last_kept test a (λ i p y. three_stays i (ap (λ (b : ℕ). among b the_three) (sym y) ∙ e)) is 0 t)
      go false e true z =
          last_there f a (get_or image a 0) e (eqb-true _ _ z) (those test is) 0 (plain_those test is t) refl
          ∙ sym (last_there f a (get_or image a 0) e (eqb-true _ _ z) is 0 t refl)
      go false e false z =
          ap (λ (o : ℕ). read f a o (get_or image a 0))
          (last_kept test a (λ i p y.
          ap test (ap₂ (λ (b x : ℕ). b raising x) (sym y) (raises_none i p (ap (λ (b : ℕ). among b the_three) (sym y) ∙ e)))
          ∙ rw (e, there_bytes want image (a raising 0), z)) is 0 t)

  -- what is left out leaves the holds
  idle : (B : Buffer) → among B.register the_three ≡ true → (i : Step) → test i ≡ false → (n : ℕ) → next B n (clean i) ≡ n
  unfolding written
  idle B r i e n = go (eqb i.register B.register) refl
    where
      go : (c : Bool) → eqb i.register B.register ≡ c → next B n (clean i) ≡ n
      go true z =
          absurd (false≢true (sym e ∙ three_stays i (ap (λ (a : ℕ). among a the_three) (eqb-true i.register B.register z) ∙ r)))
      go false z = rw z

  still_walked : (n m : ℕ) (ms : List Step) → Walked n m ms → Walked n m (those test ms)
  still_walked n m ms w = record {
    avi_once = through (view packets avi) true n (idle packets refl) w.avi_once;
    audio_once = through (view packets audio) true n (idle packets refl) w.audio_once;
    matrix_safe = subst (λ (l : List Step). safe true (mark (up matrix m) false) (map clean l) ≡ true) (steps_left want image ms)
        (safe_those test away true (mark (up matrix m) false) (steps ms) w.matrix_safe);
    matrix_leads = subst (λ (l : List Step). lead (map clean l) ≡ true) (steps_left want image ms) (lead_those test away (steps ms) w.matrix_leads);
    gc_calm = walk_those (view packets gc) clean test (idle packets refl) false n ms w.gc_calm;
    tidies = through tidy false n (idle packets refl) w.tidies;
    ends = lands tidy n (idle packets refl) ∙ w.ends;
    closes = nexts_those tidy clean test (idle packets refl) n ms ∙ w.closes;
    matrix_ends = lands (view converter matrix) m (idle converter refl) ∙ w.matrix_ends;
  }
    where
      away : (i : Step) → test i ≡ false → eqb i.register converter.register ≡ false
      away i e = go (eqb i.register converter.register) refl
        where
          go : (c : Bool) → eqb i.register converter.register ≡ c → c ≡ false
          go true z = absurd (false≢true (sym e ∙ three_stays i (ap (λ (a : ℕ). among a the_three) (eqb-true i.register converter.register z))))
          go false z = refl

      through : (L : View Write) (may : Bool) (n : ℕ) → ((i : Step) → test i ≡ false → (k : ℕ) → L.next k (clean i) ≡ k)
          → walk L may n (map clean (steps ms)) ≡ true → walk L may n (map clean (steps (those test ms))) ≡ true
      through L may n d t = subst (λ (l : List Step). walk L may n (map clean l) ≡ true) (steps_left want image ms)
          (walk_those L clean test d may n (steps ms) t)

      lands : (L : View Write) (n : ℕ) → ((i : Step) → test i ≡ false → (k : ℕ) → L.next k (clean i) ≡ k)
          → nexts L n (map clean (steps (those test ms))) ≡ nexts L n (map clean (steps ms))
      lands L n d = subst (λ (l : List Step). nexts L n (map clean l) ≡ nexts L n (map clean (steps ms))) (steps_left want image ms)
          (nexts_those L clean test d n (steps ms))

  -- what is left out is not the step that lowers the coefficient hold
  every_those : (p : Step → Bool) (is : List Step) → every p is ≡ true → every p (those test is) ≡ true
  every_those p [] t = refl
  every_those p (i ∷ is) t = go (test i) (every_those p is (both_right (p i) _ t))
    where
      go : (c : Bool) → every p (those test is) ≡ true → every p (cond c (i ∷ []) [] ++ those test is) ≡ true
      go true h = rw (both_left (p i) _ t) h
      go false h = h

  -- nor is it any of those to the hold's register
  some_those : (is : List Step) → every not_hold is ≡ false → every not_hold (those test is) ≡ false
  some_those [] t = t
  some_those (i ∷ is) t = go (test i) refl (not_hold i) refl t (some_those is)
    where
      go : (c : Bool) → test i ≡ c → (h : Bool) → not_hold i ≡ h → (h && every not_hold is) ≡ false
          → (every not_hold is ≡ false → every not_hold (those test is) ≡ false) → every not_hold (cond c (i ∷ []) [] ++ those test is) ≡ false
      go true e true f t ih = rw (f, ih t)
      go true e false f t ih = rw f
      go false e true f t ih = ih t
      go false e false f t ih =
          absurd (false≢true (sym e ∙ three_stays i (ap (λ (a : ℕ). among a the_three) (eqb-true i.register reg.coefficient_update (not-false _ f)))))

  those_middle : (x y : List Step) (i : Step) → test i ≡ true → those test (x ++ i ∷ y) ≡ those test x ++ i ∷ those test y
  those_middle [] y i e = rw e
  those_middle (v ∷ x) y i e = go (test v) (those_middle x y i e)
    where
      go : (c : Bool) → those test (x ++ i ∷ y) ≡ those test x ++ i ∷ those test y
          → cond c (v ∷ []) [] ++ those test (x ++ i ∷ y) ≡ (cond c (v ∷ []) [] ++ those test x) ++ i ∷ those test y
      go true h = ap (λ (l : List Step). v ∷ l) h
      go false h = h

  still_lowers : (ms : List Step) → Lowers ms → Lowers (those test ms)
  still_lowers ms l = record {
    front = those test l.front;
    back = those test l.back;
    split = ap (those test) l.split ∙ those_middle l.front l.back _ (three_stays (reg.coefficient_update raising 0) refl);
    raised = every_those elsewhere_or_up l.front l.raised;
    risen = some_those l.front l.risen;
    lowered = every_those not_hold l.back l.lowered;
  }

  pub fewer_good : Ready image → Good want image (left_steps want image)
  fewer_good r =
      let old : Good want image (middle_of want image) = planned_good want image r in
      let ms : List Step = middle_of want image in
      let b : Bool = up audio (holds_of packets image) in
      record {
        lowers = still_lowers ms old.lowers;
        walked = still_walked _ _ ms old.walked;
        finishes = λ a h. subst (λ (l : List Step). read f a (last a l 0) (get_or image a 0) ≡ read f a (last a (steps ms) 0) (get_or image a 0))
            (steps_left want image ms) (last_left (steps ms) (every_plain b) a) ∙ old.finishes a h;
        rests = λ a h t. subst (λ (l : List Step). last a l 0 ≡ 0) (steps_left want image ms)
            (none_kept test a (steps ms) 0 (old.rests a h t));
      }

-- ---- demand 3

pub left_fair : (want : ℕ → ℕ) (image : List ℕ) (k : ℕ) → k < length (list_with left_steps want image)
    → Fair image (get_or (list_with left_steps want image) k (0 gets 0))
left_fair want image =
    subst (λ (ws : List Write). (k : ℕ) → k < length ws → Fair image (get_or ws k (0 gets 0))) (by_steps want image) (each_fair want image)

module _ (want : ℕ → ℕ) (s : Chip) (whole : length s.image ≡ 256) (clear : ready s.image ≡ true) where
  fit : Ready s.image
  fit = record { whole = whole; holds = clear }

  pub holds : Demand3 (write_list want) want s
  holds =
      subst (λ (plan : List ℕ → List Write). Demand3 plan want s) (fun_ext (λ image. sym (by_steps want image)))
      (demand3 left_steps fewer_good left_fair want s fit)

  pub room_left : Room (write_list want s.image)
  room_left = subst Room (sym (by_steps want s.image)) (room left_steps fewer_good left_fair want s.image fit)

  -- a finished run from a near state ends as one from this
  pub ends_same : (u : Chip) → Near s u → (es fs : List Event) → FinishedRun (write_list want s.image) es
      → FinishedRun (write_list want u.image) fs → Same (run es s) (run fs u)
  ends_same u near es fs e f =
      same_end left_steps fewer_good left_fair want s u fit near es fs
      (subst (λ (ws : List Write). FinishedRun ws es) (by_steps want s.image) e)
      (subst (λ (ws : List Write). FinishedRun ws fs) (by_steps want u.image) f)
