-- Demand 3 for any list that is `Good`: its runs, the room for its Vsync, and planning again after cuts. Assumes nothing.
use mathlib.Core.Path.{◌≡◌, refl, sym, ap, subst, ◌∙◌}
use mathlib.Core.Bool.{false≢true, Bool, true, false, not, ◌&&◌, ◌||◌}
use mathlib.Core.List.{List, [], ◌∷◌, ◌++◌, map, append_assoc, map-append}
use Prim.Native.Nat.{ℕ, ◌+◌, ◌*◌, ◌<◌}
use native.Mathlib.Nat.{zero-lt-suc}
use native.Mathlib.Omega.{arith}
use lib.Dec.{eqb}
use lib.ListN.{length, get_or}
use borrow.Author.Tests.{eqb-false}
use Rattle.lists.specs.Find.{every}
use Rattle.lists.proofs.Both.{both_left, both_right}
use Rattle.map.specs.Map as reg
use Rattle.bits.specs.Merge.{bit}
use Rattle.chip.specs.declared.Chip.{Chip}
use Rattle.chip.specs.Machine.{Write, ◌gets◌, matrix, up}
use Rattle.writes.specs.Steps.{Step, ◌raising◌, steps}
use Rattle.writes.specs.List.{decided, written, list_with, finished_image}
use Rattle.cut.specs.Run.{Event, write, vsync, run, cut, writes_of, writes_by, Fair}
use Rattle.cut.specs.Vsync.{waited, leaves_hold, FinishedRun}
use Rattle.cut.specs.Room.{sent}
use Rattle.cut.specs.Room.{Room}
use Rattle.cut.specs.Demand.{Cut, cuts, PlannedAgain, Same, Clauses, Demand3}
use Rattle.cut.proofs.BytesKept.{clean, mute_byte}
use Rattle.cut.proofs.CoefficientsInUse.{hold_seen}
use Rattle.cut.proofs.FinishedExactly.{between}
use Rattle.cut.proofs.AtEveryCut as cut
use Rattle.cut.proofs.AtEveryCut.{Ready, Near, near_self, near_image, Good, Lowers, elsewhere_or_up, not_hold}
use Rattle.cut.proofs.ClausesOfRuns.{alike, image_end, clauses, after_same}

-- ---- the list with its Vsync before the last write

pub waited_writes : (ws : List Write) → writes_of (waited ws) ≡ ws
waited_writes [] = refl
waited_writes (w ∷ []) = refl
waited_writes (w ∷ v ∷ ws) = ap (λ (l : List Write). w ∷ l) (waited_writes (v ∷ ws))

pub waited_last : (ws : List Write) (w : Write) → waited (ws ++ w ∷ []) ≡ sent ws ++ vsync ∷ write w ∷ []
waited_last [] w = refl
waited_last (v ∷ []) w = refl
waited_last (v ∷ x ∷ ws) w = ap (λ (l : List Event). write v ∷ l) (waited_last (x ∷ ws) w)

pub waited_finishes : (ws : List Write) (w : Write) → not (eqb w.address 0x1A) ≡ true → FinishedRun (ws ++ w ∷ []) (waited (ws ++ w ∷ []))
waited_finishes ws w n = record {
  runs = waited_writes (ws ++ w ∷ []);
  before = sent ws;
  after = write w ∷ [];
  waits = waited_last ws w;
  lowered = rw n;
  unopened = zero-lt-suc _;
}

-- ---- room for it

-- one more write that leaves the hold
away_last : (ws : List Write) (w : Write) → not (eqb w.address 0x1A) ≡ true → leaves_hold ws ≡ true → leaves_hold (ws ++ w ∷ []) ≡ true
away_last [] w n t = rw n
away_last (v ∷ ws) w n t =
    rw (both_left (not (eqb v.address 0x1A)) _ t, away_last ws w n (both_right (not (eqb v.address 0x1A)) _ t))

module _ (want : ℕ → ℕ) (image : List ℕ) where
  abbrev f : Step → Write
  f = written want image

  raised_list : (is : List Step) → every elsewhere_or_up is ≡ true
      → every (λ w. not (eqb w.address 0x1A) || eqb (bit 5 w.value) 1) (map f is) ≡ true
  unfolding written
  raised_list [] t = refl
  raised_list (i ∷ is) t = go (eqb i.register 0x1A) refl (both_left (elsewhere_or_up i) _ t) (raised_list is (both_right (elsewhere_or_up i) _ t))
    where
      go : (r : Bool) → eqb i.register 0x1A ≡ r → (not r || up matrix (clean i).value) ≡ true → {more : Bool} → more ≡ true
          → ((not r || up matrix (f i).value) && more) ≡ true
      go true e u m = rw (hold_seen want image i e ∙ u, m)
      go false e u m = m

  away_list : (is : List Step) → every not_hold is ≡ true → leaves_hold (map f is) ≡ true
  unfolding written
  away_list [] t = refl
  away_list (i ∷ is) t = rw (both_left (not_hold i) _ t, away_list is (both_right (not_hold i) _ t))

  -- one of the steps is to the hold's register, and so is one of the writes
  some_list : (is : List Step) → every not_hold is ≡ false → leaves_hold (map f is) ≡ false
  unfolding written
  some_list [] t = absurd (false≢true (sym t))
  some_list (i ∷ is) t = go (not_hold i) t (some_list is)
    where
      go : (b : Bool) → (b && every not_hold is) ≡ false → (every not_hold is ≡ false → leaves_hold (map f is) ≡ false)
          → (b && leaves_hold (map f is)) ≡ false
      go true t ih = ih t
      go false t ih = refl

  down_bit : bit 5 (f (reg.coefficient_update raising 0)).value ≡ 0
  down_bit =
      let d : up matrix (f (reg.coefficient_update raising 0)).value ≡ false = hold_seen want image (reg.coefficient_update raising 0) refl in
      let n : (bit 5 (f (reg.coefficient_update raising 0)).value ≡ 1) → ⊥ = eqb-false _ 1 d in
      omega arith

  opening_bits : (bit 6 (f (reg.av_mute raising reg.clear_av_mute_mask)).value ≡ 0) × (bit 7 (f (reg.av_mute raising reg.clear_av_mute_mask)).value ≡ 1)
  unfolding written decided
  opening_bits =
      let v : ℕ = (f (reg.av_mute raising reg.clear_av_mute_mask)).value in
      let b : bit 6 v + 2 * bit 7 v ≡ 2 = mute_byte (get_or image reg.av_mute 0) reg.clear_av_mute_mask (want reg.av_mute) in
      (omega (arith, b), omega (arith, b))

  pub room_for : (ms : List Step) → Lowers ms → Room (map f (steps ms))
  unfolding written
  room_for ms l =
      let first : Step = reg.av_mute raising reg.set_av_mute_mask in
      let last : Step = reg.av_mute raising reg.clear_av_mute_mask in
      let low : Step = reg.coefficient_update raising 0 in
      let e : map f (steps ms) ≡ f first ∷ map f ms ++ f last ∷ [] = ap (λ (x : List Write). f first ∷ x) (map-append f ms (last ∷ [])) in
      let m : map f ms ≡ map f l.front ++ f low ∷ map f l.back = ap (map f) l.split ∙ map-append f l.front (low ∷ l.back) in
      record {
        front = f first ∷ map f l.front;
        lowering = f low;
        back = map f l.back;
        opening = f last;
        split = e ∙ ap (λ (x : List Write). f first ∷ x ++ f last ∷ []) m;
        raised = raised_list l.front l.raised;
        risen = some_list l.front l.risen;
        hold = refl;
        down = down_bit;
        lowered = away_list l.back l.lowered;
        mute = refl;
        opens = opening_bits;
        exactly = between (f first ∷ map f l.front) (f low) (map f l.back ++ f last ∷ []) (map f (steps ms))
            (e ∙ ap (λ (x : List Write). f first ∷ x ++ f last ∷ []) m
            ∙ ap (λ (x : List Write). f first ∷ x) (append_assoc (map f l.front) (f low ∷ map f l.back) (f last ∷ []))) refl
            (away_last (map f l.back) (f last) refl (away_list l.back l.lowered));
      }

  -- with one Vsync before the last write a run is finished
  pub waits_for : (ms : List Step) → FinishedRun (map f (steps ms)) (waited (map f (steps ms)))
  unfolding written
  waits_for ms =
      let first : Step = reg.av_mute raising reg.set_av_mute_mask in
      let last : Step = reg.av_mute raising reg.clear_av_mute_mask in
      subst (λ (ws : List Write). FinishedRun ws (waited ws)) (ap (λ (x : List Write). f first ∷ x) (sym (map-append f ms (last ∷ []))))
      (waited_finishes (f first ∷ map f ms) (f last) refl)

-- ---- `PlannedAgain` leaves no cuts out

one_more : (planned : List ℕ → List Write) (cs : List Cut) (s : Chip) → PlannedAgain planned cs s → (c : Cut)
    → writes_of c.events ≡ planned (cuts cs s).image
    → PlannedAgain planned (cs ++ c ∷ []) s × (cuts (cs ++ c ∷ []) s ≡ cut c.events (cuts cs s) c.place)
one_more planned [] s p c e = ((e, tt), refl)
one_more planned (d ∷ cs) s p c e =
    let q = one_more planned cs (cut d.events s d.place) p.1 c e in ((p.0, q.0), q.1)

-- ---- planned again

module _ (mid : (ℕ → ℕ) → List ℕ → List Step)
    (good : (want : ℕ → ℕ) (image : List ℕ) → Ready image → Good want image (mid want image))
    (fair : (want : ℕ → ℕ) (image : List ℕ) (k : ℕ) → k < length (list_with mid want image)
    → Fair image (get_or (list_with mid want image) k (0 gets 0))) (want : ℕ → ℕ) where
  abbrev P : List ℕ → List Write
  P = list_with mid want

  pub near_run : (s u : Chip) (es : List Event) (k : ℕ) → writes_of es ≡ P u.image → Near s u → Near s (cut es u k)
  near_run s u es k e n =
      near_image s _ (cut es u k) (alike mid good want u n.ready es e k).image (cut.near_cut mid good want s u (writes_by es k) n)

  pub near_cuts : (s u : Chip) (cs : List Cut) → PlannedAgain P cs u → Near s u → Near s (cuts cs u)
  near_cuts s u [] p n = n
  near_cuts s u (c ∷ cs) p n = near_cuts s (cut c.events u c.place) cs p.1 (near_run s u c.events c.place p.0 n)

  pub all_runs : (s : Chip) → Ready s.image → (es : List Event) → writes_of es ≡ P s.image
      → Clauses (finished_image want s.image) (P s.image) es s
  all_runs s r es e = clauses mid good want s r es e (fair want s.image)

  -- finished runs from near states end alike
  pub same_end : (s u : Chip) → Ready s.image → Near s u → (es fs : List Event) → FinishedRun (P s.image) es → FinishedRun (P u.image) fs
      → Same (run es s) (run fs u)
  same_end s u r n es fs e f =
      let a = all_runs s r es e.runs in
      let b = all_runs u n.ready fs f.runs in
      after_same (run es s) (run fs u) (a.ended e) (b.ended f)
      (b.registers ∙ sym (image_end mid good want u n.ready) ∙ cut.ends_alike mid good want s u r n ∙ image_end mid good want s r
      ∙ sym a.registers)

  pub room : (image : List ℕ) → Ready image → Room (P image)
  room image r = room_for want image (mid want image) (good want image r).lowers

  pub demand3 : (s : Chip) → Ready s.image → Demand3 P want s
  demand3 s r = record {
    runs = all_runs s r;
    waits = waits_for want s.image (mid want s.image);
    none = tt;
    more = λ cs p c e. one_more P cs s p c e;
    sized = λ cs p. (near_cuts s s cs p (near_self s r)).ready.whole;
    ready = λ cs p. (near_cuts s s cs p (near_self s r)).ready.holds;
    again = λ cs p es fs e f. same_end s (cuts cs s) r (near_cuts s s cs p (near_self s r)) es fs e f;
  }
