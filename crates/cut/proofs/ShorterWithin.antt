-- Writes that change nothing may be left out: the shorter run goes through states of the longer one. What is left out of the full list
-- changes nothing where it stands. Assumes nothing.
use mathlib.Core.Path.{◌≡◌, refl, sym, ap, subst, ◌∙◌}
use mathlib.Core.Logic.{⊎_elim}
use mathlib.Core.Bool.{Bool, true, false, false≢true, cond, not, ◌&&◌}
use mathlib.Core.List.{List, [], ◌∷◌, ◌++◌}
use Prim.Native.Nat.{ℕ, zero, suc, ◌<◌, ◌≤◌, zero-le, suc-le-suc}
use native.Mathlib.Nat.{zero-lt-suc, suc-ne-zero}
use lib.Dec.{eqb, ltb}
use lib.ListN.{length, get_or, take, drop, length-map}
use lib.Seq.{set-get_or}
use borrow.Author.Tests.{eqb-true, ltb-true, not-false}
use Rattle.lists.specs.Among.{among}
use Rattle.lists.specs.Find.{every}
use Rattle.lists.specs.Those.{those}
use Rattle.lists.proofs.Both.{both_left, both_right, neither_left, neither_right}
use Rattle.lists.proofs.Emit.{map_at}
use Rattle.lists.proofs.Find.{every_at}
use Rattle.bits.specs.Merge.{merge}
use Rattle.map.specs.Map as reg
use Rattle.registers.specs.Classes.{read_only}
use Rattle.chip.specs.declared.Chip.{Chip}
use Rattle.chip.specs.Numbered.{Wrote}
use Rattle.chip.specs.Machine.{Write, ◌gets◌, audio, packets, up, holds_of}
use Rattle.chip.specs.Write.{put, stored, write_of}
use Rattle.chip.proofs.Writes.{written_as, allowed}
use Rattle.writes.specs.Steps.{Step, ◌raising◌, steps}
use Rattle.writes.specs.List.{written, middle_of, full_list, already_there, the_three, stays, write_list, ready}
use Rattle.writes.proofs.Fewer.{plain, raises_none, every_plain, there_bytes}
use Rattle.cut.specs.Run.{Event, write, vsync, happens, run, cut, event, writes_of, writes_by}
use Rattle.cut.specs.Room.{sent}
use Rattle.cut.specs.Within.{Within, MadeRight}
use Rattle.cut.proofs.VsyncsLeave.{alike_write, which}
use Rattle.cut.proofs.ClausesOfRuns.{alike}
use Rattle.cut.proofs.AtEveryCut.{Ready, take_map, cut_acts, stand, taken}
use Rattle.cut.proofs.DemandOfFullList.{planned_good}
use Rattle.cut.proofs.DemandOfWriteList.{last_there}

-- ---- any list of events, some of them left out

module _ (test : Event → Bool) where
  -- how far the whole list has come after k of those that pass
  abbrev place : List Event → ℕ → ℕ
  place [] k = 0
  place (e ∷ es) zero = 0
  place (e ∷ es) (suc k) = suc (place es (cond (test e) k (suc k)))

  -- what is left out changes nothing where it stands
  abbrev Idle : List Event → Chip → Type 0
  Idle es s = (k : ℕ) → k < length es → test (event es k) ≡ false → (happens (event es k) (cut es s k)).chip ≡ cut es s k

  next_idle : (e : Event) (es : List Event) (s : Chip) → Idle (e ∷ es) s → Idle es (happens e s).chip
  next_idle e es s i k h = i (suc k) (suc-le-suc h)

  same_cuts : (es : List Event) (s : Chip) → Idle es s → (k : ℕ) → cut (those test es) s k ≡ cut es s (place es k)
  same_cuts [] s i zero = refl
  same_cuts [] s i (suc k) = refl
  same_cuts (e ∷ es) s i zero = refl
  same_cuts (e ∷ es) s i (suc k) = go (test e) refl (same_cuts es (happens e s).chip (next_idle e es s i))
    where
      go : (c : Bool) → test e ≡ c → ((k : ℕ) → cut (those test es) (happens e s).chip k ≡ cut es (happens e s).chip (place es k))
          → cut (cond c (e ∷ []) [] ++ those test es) s (suc k) ≡ cut (e ∷ es) s (suc (place es (cond c k (suc k))))
      go true q ih = ih k
      go false q ih = ap (λ (u : Chip). cut (those test es) u (suc k)) (sym (i 0 (zero-lt-suc _) q)) ∙ ih (suc k)

  same_end : (es : List Event) (s : Chip) → Idle es s → run (those test es) s ≡ run es s
  same_end [] s i = refl
  same_end (e ∷ es) s i = go (test e) refl (same_end es (happens e s).chip (next_idle e es s i))
    where
      go : (c : Bool) → test e ≡ c → run (those test es) (happens e s).chip ≡ run es (happens e s).chip
          → run (cond c (e ∷ []) [] ++ those test es) s ≡ run (e ∷ es) s
      go true q ih = ih
      go false q ih = ap (λ (u : Chip). run (those test es) u) (sym (i 0 (zero-lt-suc _) q)) ∙ ih

  place_rises : (es : List Event) (k : ℕ) → place es k ≤ place es (suc k)
  place_rises [] k = zero-le
  place_rises (e ∷ es) zero = zero-le
  place_rises (e ∷ es) (suc k) = go (test e) (place_rises es k) (place_rises es (suc k))
    where
      go : (c : Bool) → place es k ≤ place es (suc k) → place es (suc k) ≤ place es (suc (suc k))
          → suc (place es (cond c k (suc k))) ≤ suc (place es (cond c (suc k) (suc (suc k))))
      go true h l = suc-le-suc h
      go false h l = suc-le-suc l

  passes_within : (es : List Event) (s : Chip) → Idle es s → Within (those test es) es s
  passes_within es s i = record { place = place es; cuts = same_cuts es s i; rises = place_rises es; ends = same_end es s i }

-- ---- a run of the writes that pass, with the others put back in

module _ (test : Write → Bool) where
  abbrev kept : Event → Bool
  kept (write w) = test w
  kept vsync = true

  record Filled (ws : List Write) (es : List Event) : Type 0 where
    whole : List Event
    runs : writes_of whole ≡ ws
    passes : those kept whole ≡ es

  left_out : (w : Write) (ws : List Write) (es : List Event) → test w ≡ false → Filled ws es → Filled (w ∷ ws) es
  left_out w ws es e f = record {
    whole = write w ∷ f.whole;
    runs = ap (λ (l : List Write). w ∷ l) f.runs;
    passes = rw e f.passes;
  }

  none : (ws : List Write) → those test ws ≡ [] → Filled ws []
  none [] e = record { whole = []; runs = refl; passes = refl }
  none (w ∷ ws) e = go (test w) refl e (none ws)
    where
      go : (c : Bool) → test w ≡ c → cond c (w ∷ []) [] ++ those test ws ≡ [] → (those test ws ≡ [] → Filled ws []) → Filled (w ∷ ws) []
      go true q e ih = absurd (suc-ne-zero _ (ap length e))
      go false q e ih = left_out w ws [] q (ih e)

  next_write : (v : Write) (es : List Event) → ((ws : List Write) → those test ws ≡ writes_of es → Filled ws es)
      → (ws : List Write) → those test ws ≡ v ∷ writes_of es → Filled ws (write v ∷ es)
  next_write v es more [] e = absurd (suc-ne-zero _ (sym (ap length e)))
  next_write v es more (w ∷ ws) e = go (test w) refl e (next_write v es more ws)
    where
      go : (c : Bool) → test w ≡ c → cond c (w ∷ []) [] ++ those test ws ≡ v ∷ writes_of es
          → (those test ws ≡ v ∷ writes_of es → Filled ws (write v ∷ es)) → Filled (w ∷ ws) (write v ∷ es)
      go true q e ih =
          let f : Filled ws es = more ws (ap (λ (l : List Write). drop 1 l) e) in
          record {
            whole = write w ∷ f.whole;
            runs = ap (λ (l : List Write). w ∷ l) f.runs;
            passes = rw q (ap (λ (l : List Event). write w ∷ l) f.passes
                ∙ ap (λ (x : Write). write x ∷ es) (ap (λ (l : List Write). get_or l 0 (0 gets 0)) e));
          }
      go false q e ih = left_out w ws (write v ∷ es) q (ih e)

  fill_in : (es : List Event) (ws : List Write) → those test ws ≡ writes_of es → Filled ws es
  fill_in [] ws e = none ws e
  fill_in (vsync ∷ es) ws e =
      let f : Filled ws es = fill_in es ws e in
      record { whole = vsync ∷ f.whole; runs = f.runs; passes = ap (λ (l : List Event). vsync ∷ l) f.passes }
  fill_in (write v ∷ es) ws e = next_write v es (fill_in es) ws e

-- ---- a write of the byte that stands, elsewhere than in the three registers

unmoved : (t : Chip) (a v d : ℕ) → among a the_three ≡ false → get_or t.image a 0 ≡ d → merge 8 (read_only a) d v ≡ d
    → put a (stored a v t.image) t ≡ t
unfolding put stored
unmoved t a v d n e m =
    let p : eqb a reg.infoframe_update ≡ false = neither_left _ _ (neither_right (eqb a reg.av_mute) _ n) in
    let q : eqb a reg.coefficient_update ≡ false = neither_left _ _ (neither_right (eqb a reg.infoframe_update) _ (neither_right (eqb a reg.av_mute) _ n)) in
    let b : merge 8 (read_only a) (get_or t.image a 0) v ≡ get_or t.image a 0 = ap (λ (x : ℕ). merge 8 (read_only a) x v) e ∙ m ∙ sym e in
    rw (p, q, b, set-get_or t.image a 0, and_false (not t.waiting))
  where
    and_false : (x : Bool) → (x && false) ≡ false
    and_false true = refl
    and_false false = refl

pub every_take : (test : Step → Bool) (is : List Step) (k : ℕ) → every test is ≡ true → every test (take k is) ≡ true
every_take test is zero t = refl
every_take test [] (suc k) t = refl
every_take test (i ∷ is) (suc k) t = rw (both_left (test i) _ t) (every_take test is k (both_right (test i) _ t))

module _ (want : ℕ → ℕ) (s : Chip) (whole : length s.image ≡ 256) (clear : ready s.image ≡ true) where
  fit : Ready s.image
  fit = record { whole = whole; holds = clear }

  abbrev f : Step → Write
  f = written want s.image

  abbrev is : List Step
  is = steps (middle_of want s.image)

  all_plain : every plain is ≡ true
  all_plain = every_plain (up audio (holds_of packets s.image))

  -- a register whose byte stands is as it was at every cut
  still : (i : Step) → plain i ≡ true → stays s.image (f i) ≡ false → (k : ℕ)
      → get_or (cut (sent (full_list want s.image)) s k).image i.register 0 ≡ get_or s.image i.register 0
  unfolding written
  still i t n k =
      let a : ℕ = i.register in
      let three : among a the_three ≡ false = neither_left _ _ n in
      let v : (f i).value ≡ get_or s.image a 0 =
      eqb-true _ _ (sym (there_bytes want s.image i) ∙ not-false _ (neither_right (among a the_three) _ n)) in
      let z : (f (a raising 0)).value ≡ get_or s.image a 0 = ap (λ (x : ℕ). (f (a raising x)).value) (sym (raises_none i t three)) ∙ v in
      rw (cut_acts middle_of planned_good want s fit k, take_map f k is)
      (stand middle_of planned_good want s fit (take k is) a (ltb-true a 256 (both_left (ltb a 256) _ t))
      ∙ last_there f a (get_or s.image a 0) three z (take k is) 0 (every_take plain is k all_plain) refl)

  -- a write that is left out of a run changes nothing where it stands
  idle : (es : List Event) → writes_of es ≡ full_list want s.image → Idle (kept (stays s.image)) es s
  unfolding written already_there
  idle es runs k h n = ⊎_elim (λ q. absurd (false≢true (sym n ∙ ap (kept (stays s.image)) q))) (λ q. at q.0 q.1) (which es k h)
    where
      at : event es k ≡ write (get_or (writes_of es) (writes_by es k) (0 gets 0)) → writes_by es k < length (writes_of es)
          → (happens (event es k) (cut es s k)).chip ≡ cut es s k
      at q l =
          let j : ℕ = writes_by es k in
          let i : Step = get_or is j (0 raising 0) in
          let m : j < length (full_list want s.image) = subst (λ (ws : List Write). j < length ws) runs l in
          let d : j < length is = rw (sym (length-map is f)) m in
          let e : event es k ≡ write (f i) = q ∙ ap (λ (ws : List Write). write (get_or ws j (0 gets 0))) runs
          ∙ ap write (map_at f is j (0 raising 0) (0 gets 0) d) in
          let t : plain i ≡ true = every_at plain is j (0 raising 0) all_plain d in
          let left : stays s.image (f i) ≡ false = ap (kept (stays s.image)) (sym e) ∙ n in
          let u : Chip = cut es s k in
          let full : Chip = cut (sent (full_list want s.image)) s j in
          let a = alike middle_of planned_good want s fit es runs k in
          let ok : (write_of u (f i).address (f i).value).refusal ≡ 0 =
          (alike_write (f i).address (f i).value u full a).refusal
          ∙ ap (λ (w : Write). (write_of full w.address w.value).refusal) (sym (map_at f is j (0 raising 0) (0 gets 0) d))
          ∙ taken middle_of planned_good want s fit j m in
          ap (λ (v : Event). (happens v u).chip) e
          ∙ ap (λ (w : Wrote). w.chip) (written_as u (f i).address (f i).value false (allowed u (f i).address (f i).value ok))
          ∙ unmoved u i.register (f i).value (get_or s.image i.register 0) (neither_left _ _ left)
          (ap (λ (l : List ℕ). get_or l i.register 0) a.image ∙ still i t left j)
          (eqb-true _ _ (not-false _ (neither_right (among i.register the_three) _ left)))

  pub made_right_lem : (es : List Event) → writes_of es ≡ write_list want s.image → MadeRight (full_list want s.image) es s
  made_right_lem es e =
      let x = fill_in (stays s.image) es (full_list want s.image) (sym e) in
      record {
        whole = x.whole;
        runs = x.runs;
        within = subst (λ (l : List Event). Within l x.whole s) x.passes
            (passes_within (kept (stays s.image)) x.whole s (idle x.whole x.runs));
      }
