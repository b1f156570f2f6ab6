-- Demand 3's clauses of every run of a list that is `Good`, with Vsyncs anywhere among its writes. Assumes nothing.
use mathlib.Core.Path.{◌≡◌, refl, sym, ap, subst, ◌∙◌}
use mathlib.Core.Logic.{◌⊎◌, ⊎_map, ⊎_elim, ◌≢◌}
use mathlib.Core.Bool.{Bool, true, false, cond, not, ◌&&◌}
use mathlib.Core.List.{List, [], ◌∷◌, ◌++◌, map, append-nil}
use Prim.Native.Nat.{ℕ, zero, suc, ◌<◌, ◌≤◌}
use native.Mathlib.Nat.{not-suc-le-zero, le_of_suc-le-suc, suc-ne-zero, le_refl}
use native.Mathlib.Omega.{arith}
use lib.Dec.{eqb}
use lib.ListN.{length, get_or, take, drop, length-map, length-append}
use lib.Seq.{take-append-le, take-length, take_all}
use borrow.Author.Tests.{eqb-false, not-true}
use Rattle.lists.proofs.Both.{both_left, both_right}
use Rattle.map.specs.Map as reg
use Rattle.bits.specs.Merge.{under}
use Rattle.registers.specs.Classes.{free}
use Rattle.matrix.specs.Matrix.{fields}
use Rattle.chip.specs.declared.Chip.{Chip}
use Rattle.chip.specs.Numbered.{Wrote}
use Rattle.chip.specs.Machine.{Write, ◌gets◌, Group, avi, audio, matrix, packets, converter, up, registers_of, holds_of, held, in_use, coefficients, Muted}
use Rattle.chip.specs.Write.{write_of, vsync_of}
use Rattle.chip.proofs.Writes.{stepped, turned, at_once_lem}
use Rattle.writes.specs.Steps.{Step, steps}
use Rattle.writes.specs.List.{written, list_with, finished_image}
use Rattle.writes.proofs.Image.{is_image}
use Rattle.cut.specs.Run.{Event, write, vsync, happens, run, cut, event, writes_of, writes_by, standing, Either, Fair, IsFair, Careful}
use Rattle.cut.specs.Run.{Covered}
use Rattle.cut.specs.Vsync.{change_waits, turned_over, old, leaves_hold, FinishedRun}
use Rattle.cut.specs.Room.{sent}
use Rattle.cut.specs.Demand.{After, Same, Clauses}
use Rattle.cut.proofs.PlannedStates.{Planner, cut_of, end_of}
use Rattle.cut.proofs.MovesOnlyAt.{acts}
use Rattle.cut.proofs.GroupStays.{store, down_part}
use Rattle.cut.proofs.BytesKept.{agree_free}
use Rattle.cut.proofs.Repeated.{sized_happens}
use Rattle.cut.proofs.FairRunLeaves.{untouched}
use Rattle.cut.proofs.CoefficientsInUse.{act, shown, old_bytes, old_or_new}
use Rattle.cut.proofs.NoneRefused.{Fit, head_taken, tail_fit}
use Rattle.cut.proofs.VsyncsLeave.{Alike, alike_self, alike_use, alike_muted, alike_open, alike_write, alike_vsync, run_alike, cut_alike, which, counted}
use Rattle.cut.proofs.VsyncsLeave.{within, before_first, writes_take, writes_append, run_append}
use Rattle.cut.proofs.AtEveryCut as cut
use Rattle.cut.proofs.AtEveryCut.{Ready, near_self, Good}

-- ---- runs whose writes are stored as they are

module _ (want : ℕ → ℕ) (image₀ : List ℕ) where
  fit_vsync : (is : List Step) (s : Chip) → Fit want image₀ s is → Fit want image₀ (vsync_of s) is
  unfolding vsync_of
  fit_vsync is s f = record { agree = f.agree; sized = f.sized; holds = f.holds; walks = f.walks }

  stored_run : (es : List Event) (is : List Step) (s : Chip) (k : ℕ) → writes_of es ≡ map (written want image₀) is → Fit want image₀ s is
      → run (take k es) s ≡ acts act (take k es) s
  stored_run es is s zero e f = refl
  stored_run [] is s (suc k) e f = refl
  stored_run (vsync ∷ es) is s (suc k) e f = stored_run es is (vsync_of s) k e (fit_vsync is s f)
  stored_run (write w ∷ es) [] s (suc k) e f = absurd (suc-ne-zero _ (ap length e))
  stored_run (write w ∷ es) (i ∷ is) s (suc k) e f =
      let h : w ≡ written want image₀ i = ap (λ (l : List Write). get_or l 0 (0 gets 0)) e in
      let t : writes_of es ≡ map (written want image₀) is = ap (λ (l : List Write). drop 1 l) e in
      let q : (write_of s w.address w.value).chip ≡ store w s =
      ap (λ (v : Write). (write_of s v.address v.value).chip) h ∙ ap (λ (x : Wrote). x.chip) (head_taken want image₀ i is s f)
      ∙ ap (λ (v : Write). store v s) (sym h) in
      ap (run (take k es)) q ∙ stored_run es is (store w s) k t (subst (λ (v : Write). Fit want image₀ (store v s) is) (sym h) (tail_fit want image₀ i is s f))

acts_append : (es fs : List Event) (s : Chip) → acts act (es ++ fs) s ≡ acts act fs (acts act es s)
acts_append [] fs s = refl
acts_append (e ∷ es) fs s = acts_append es fs (act e s)

-- ---- after the hold's last write

pub sized_run : (es : List Event) (s : Chip) → length s.image ≡ 256 → length (run es s).image ≡ 256
sized_run [] s z = z
sized_run (e ∷ es) s z = sized_run es (happens e s).chip (sized_happens e s z)

-- a write that is not to the hold's register leaves the hold
away_holds : (w : Write) (s : Chip) → length s.image ≡ 256 → not (eqb w.address 0x1A) ≡ true
    → held (write_of s w.address w.value).chip ≡ held s
away_holds w s z n = ap (λ (b : ℕ). up matrix b)
    ((stepped s w.address w.value z).elsewhere 0x1A (λ e. eqb-false _ _ (not-true _ n) (sym e)))

held_vsync : (s : Chip) → held (vsync_of s) ≡ held s
unfolding vsync_of
held_vsync s = refl

left_held : (es : List Event) (s : Chip) → length s.image ≡ 256 → leaves_hold (writes_of es) ≡ true → held (run es s) ≡ held s
left_held [] s z t = refl
left_held (write w ∷ es) s z t =
    left_held es (write_of s w.address w.value).chip (sized_happens (write w) s z) (both_right (not (eqb w.address 0x1A)) _ t)
    ∙ away_holds w s z (both_left (not (eqb w.address 0x1A)) _ t)
left_held (vsync ∷ es) s z t = left_held es (vsync_of s) (sized_happens vsync s z) t ∙ held_vsync s

left_idle : (es : List Event) (s : Chip) → length s.image ≡ 256 → leaves_hold (writes_of es) ≡ true → held s ≡ false → s.waiting ≡ false
    → (run es s).waiting ≡ false
left_idle [] s z t h w = w
left_idle (write v ∷ es) s z t h w =
    let n : not (eqb v.address 0x1A) ≡ true = both_left (not (eqb v.address 0x1A)) _ t in
    left_idle es (write_of s v.address v.value).chip (sized_happens (write v) s z) (both_right (not (eqb v.address 0x1A)) _ t)
    (away_holds v s z n ∙ h) ((stepped s v.address v.value z).waits (away_holds v s z n) ∙ w)
left_idle (vsync ∷ es) s z t h w = left_idle es (vsync_of s) (sized_happens vsync s z) t (held_vsync s ∙ h) ((turned s).ends h)

-- a finished run ends with nothing waiting
pub nothing_waits : (ws : List Write) (es : List Event) (s : Chip) → length s.image ≡ 256 → FinishedRun ws es → held (run es s) ≡ false
    → (run es s).waiting ≡ false
nothing_waits ws es s z f h =
    let t : Chip = run f.before s in
    let e : run es s ≡ run f.after (vsync_of t) = ap (λ (l : List Event). run l s) f.waits ∙ run_append f.before (vsync ∷ f.after) s in
    let y : length t.image ≡ 256 = sized_run f.before s z in
    let d : held (vsync_of t) ≡ false = sym (left_held f.after (vsync_of t) (sized_happens vsync t y) f.lowered) ∙ ap held (sym e) ∙ h in
    ap (λ (c : Chip). c.waiting) e
    ∙ left_idle f.after (vsync_of t) (sized_happens vsync t y) f.lowered d ((turned t).ends (sym (held_vsync t) ∙ d))

-- a finished run is finished from its last write on
pub all_writes : (es : List Event) (k : ℕ) → length (writes_of es) ≤ writes_by es k → writes_of (take k es) ≡ writes_of es
all_writes es k h = writes_take es k ∙ take_all (writes_by es k) (writes_of es) h

record Front (before after : List Event) (k : ℕ) : Type 0 where
  rest : List Event
  is : take k (before ++ vsync ∷ after) ≡ before ++ vsync ∷ rest
  same : writes_of rest ≡ writes_of after

front : (b a : List Event) (k : ℕ) → 0 < length (writes_of a) → length (writes_of (b ++ vsync ∷ a)) ≤ writes_by (b ++ vsync ∷ a) k → Front b a k
front [] a zero u h = absurd (omega (arith, u, h))
front [] a (suc k) u h = record { rest = take k a; is = refl; same = all_writes a k h }
front (write w ∷ b) a zero u h = absurd (not-suc-le-zero h)
front (vsync ∷ b) a zero u h =
    absurd (omega (arith, u, h, ap length (writes_append b (vsync ∷ a)), length-append (writes_of b) (writes_of a)))
front (write w ∷ b) a (suc k) u h =
    let p = front b a k u (le_of_suc-le-suc h) in
    record { rest = p.rest; is = ap (λ (l : List Event). write w ∷ l) p.is; same = p.same }
front (vsync ∷ b) a (suc k) u h =
    let p = front b a k u h in
    record { rest = p.rest; is = ap (λ (l : List Event). vsync ∷ l) p.is; same = p.same }

finished_by : (ws : List Write) (es : List Event) (k : ℕ) → FinishedRun ws es → writes_by es k ≡ length ws → FinishedRun ws (take k es)
finished_by ws es k f c =
    let h : length (writes_of es) ≤ writes_by es k = omega (arith, c, ap length f.runs) in
    let p = front f.before f.after k f.unopened (subst (λ (l : List Event). length (writes_of l) ≤ writes_by l k) f.waits h) in
    record {
      runs = all_writes es k h ∙ f.runs;
      before = f.before;
      after = p.rest;
      waits = ap (λ (l : List Event). take k l) f.waits ∙ p.is;
      lowered = ap leaves_hold p.same ∙ f.lowered;
      unopened = subst (λ (l : List Write). 0 < length l) (sym p.same) f.unopened;
    }

-- what ends so has the registers in use
pub after_same : (a b : Chip) → After a → After b → b.image ≡ a.image → Same a b
after_same a b x y e = record {
  registers = e;
  avi = y.avi ∙ ap (registers_of avi) e ∙ sym x.avi;
  audio = y.audio ∙ ap (registers_of audio) e ∙ sym x.audio;
  matrix = y.matrix ∙ ap (λ (l : List ℕ). fields (registers_of matrix l)) e ∙ sym x.matrix;
}

-- ---- any good list

module _ (mid : (ℕ → ℕ) → List ℕ → List Step)
    (good : (want : ℕ → ℕ) (image : List ℕ) → Ready image → Good want image (mid want image)) where
  abbrev P : Planner
  P = list_with mid

  module _ (want : ℕ → ℕ) (s : Chip) (r : Ready s.image) where
    abbrev ws : List Write
    ws = P want s.image

    abbrev end : List ℕ
    end = finished_image want s.image

    pub image_end : (end_of P want s).image ≡ end
    image_end = is_image want s.image (end_of P want s).image
        (rw (cut.done_acts mid good want s r) (cut.sized_acts ws s r.whole)) (cut.registers mid good want s r)

    module _ (es : List Event) (e : writes_of es ≡ ws) where
      pub alike : (k : ℕ) → Alike (cut es s k) (cut_of P want s (writes_by es k))
      alike k = subst (λ (l : List Write). Alike (cut es s k) (run (take (writes_by es k) (sent l)) s)) e (cut_alike es s k)

      alike_end : Alike (run es s) (end_of P want s)
      alike_end = subst (λ (l : List Write). Alike (run es s) (run (sent l) s)) e (run_alike es s s (alike_self s))

      image_run : (run es s).image ≡ end
      image_run = alike_end.image ∙ image_end

      held_run : held (run es s) ≡ false
      held_run = ap (λ (l : List ℕ). up matrix (holds_of converter l)) alike_end.image ∙ cut.held_end mid good want s r

      packets_after : (t : Chip) → Alike t (end_of P want s) → coefficients t ≡ fields (registers_of matrix t.image) → After t
      packets_after t a m =
          let q = cut.ended mid good want s r in
          record {
            opened = alike_open t (end_of P want s) a q.opened;
            avi = alike_use avi t (end_of P want s) a ∙ q.avi ∙ ap (registers_of avi) (sym a.image);
            audio = alike_use audio t (end_of P want s) a ∙ q.audio ∙ ap (registers_of audio) (sym a.image);
            matrix = m;
          }

      -- after one Vsync more
      last_image : (vsync_of (run es s)).image ≡ (run es s).image
      last_image = (turned (run es s)).image

      last_shown : shown (vsync_of (run es s)) ≡ registers_of matrix (run es s).image
      last_shown = (turned (run es s)).takes held_run

      late : After (vsync_of (run es s))
      unfolding coefficients
      late = packets_after (vsync_of (run es s)) (alike_vsync (run es s) (end_of P want s) alike_end)
          (ap fields (last_shown ∙ ap (registers_of matrix) (sym last_image)))

      ended : FinishedRun ws es → After (run es s)
      unfolding coefficients
      ended f = packets_after (run es s) alike_end
          (ap fields (down_part converter matrix (run es s) (nothing_waits ws es s r.whole f held_run) held_run))

      since : FinishedRun ws es → (k : ℕ) → writes_by es k ≡ length ws → After (cut es s k)
      unfolding coefficients
      since f k c =
          let a : Alike (cut es s k) (end_of P want s) =
          subst (λ (t : Chip). Alike (cut es s k) t) (ap (cut_of P want s) c ∙ all_sent) (alike k) in
          let d : held (cut es s k) ≡ false =
          ap (λ (l : List ℕ). up matrix (holds_of converter l)) a.image ∙ cut.held_end mid good want s r in
          packets_after (cut es s k) a
          (ap fields (down_part converter matrix (cut es s k) (nothing_waits ws (take k es) s r.whole (finished_by ws es k f c) d) d))
        where
          all_sent : cut_of P want s (length ws) ≡ end_of P want s
          all_sent = ap (λ (l : List Event). run l s) (ap (λ (n : ℕ). take n (sent ws)) (sym (length-map ws write)) ∙ take-length (sent ws))

      -- the coefficients: the run with one Vsync more at its end is tested, and this one is a beginning of it
      abbrev longer : List Event
      longer = es ++ vsync ∷ []

      writes_longer : writes_of longer ≡ ws
      writes_longer = writes_append es (vsync ∷ []) ∙ append-nil (writes_of es) ∙ e

      run_acts : (k : ℕ) → cut es s k ≡ acts act (take k es) s
      run_acts k = stored_run want s.image es (steps (mid want s.image)) s k e (cut.fit mid good want s r)

      run_all : run es s ≡ acts act es s
      run_all = subst (λ (l : List Event). run l s ≡ acts act l s) (take-length es) (run_acts (length es))

      matrix_cut : (k : ℕ) → k ≤ length es → Either (old (take k es) s).matrix (standing end).matrix (coefficients (cut es s k))
      unfolding coefficients
      matrix_cut k h =
          let t : take k longer ≡ take k es = take-append-le k es (vsync ∷ []) h in
          let final : shown (acts act longer s) ≡ registers_of matrix end =
          ap shown (acts_append es (vsync ∷ []) s ∙ ap vsync_of (sym run_all)) ∙ last_shown ∙ ap (registers_of matrix) image_run in
          let o = old_or_new longer s k r.whole (rw writes_longer (cut.safe_list mid good want s r)) (rw writes_longer (cut.lead_list mid good want s r)) in
          let now : shown (acts act (take k longer) s) ≡ shown (cut es s k) = ap (λ (l : List Event). shown (acts act l s)) t ∙ ap shown (sym (run_acts k)) in
          ⊎_map (λ x. ap fields (sym now ∙ x ∙ ap (λ (l : List Event). old_bytes l s) t) ∙ lifted (change_waits s && turned_over (take k es)))
          (λ x. ap fields (sym now ∙ x ∙ final)) o
        where
          lifted : (b : Bool) → fields (cond b (registers_of matrix s.image) (shown s)) ≡ cond b (fields (registers_of matrix s.image)) (fields (shown s))
          lifted true = refl
          lifted false = refl

      -- every event is fair and taken where it happens
      module _ (fair : (k : ℕ) → k < length ws → Fair s.image (get_or ws k (0 gets 0))) where
        -- fair on the image of the start is fair on that of a cut, which has the same free bits
        still_fair : (k : ℕ) (w : Write) → Fair s.image w → Fair (cut es s k).image w
        still_fair k w f = record {
          its_register = f.its_register;
          its_mandated = f.its_mandated;
          its_free = f.its_free
              ∙ sym (agree_free (cut_of P want s (writes_by es k)).image s.image
              (cut.near_cut mid good want s s (writes_by es k) (near_self s r)).kept w.address)
              ∙ ap (λ (l : List ℕ). under (free w.address) (get_or l w.address 0)) (sym (alike k).image);
        }

        at_write_lem : (k : ℕ) → writes_by es k < length (writes_of es) → writes_by es k < length ws
        at_write_lem k h = subst (λ (l : List Write). writes_by es k < length l) e h

        all_fair : (k : ℕ) → k < length es → IsFair (event es k) (cut es s k)
        all_fair k h = ⊎_elim (λ q. subst (λ (v : Event). IsFair v (cut es s k)) (sym q) tt)
            (λ q. subst (λ (v : Event). IsFair v (cut es s k)) (sym q.0)
            (subst (λ (l : List Write). Fair (cut es s k).image (get_or l (writes_by es k) (0 gets 0))) (sym e)
            (still_fair k _ (fair (writes_by es k) (at_write_lem k q.1))))) (which es k h)

        all_taken : (k : ℕ) → k < length es → (happens (event es k) (cut es s k)).refusal ≡ 0
        all_taken k h = ⊎_elim (λ q. subst (λ (v : Event). (happens v (cut es s k)).refusal ≡ 0) (sym q) refl)
            (λ q. subst (λ (v : Event). (happens v (cut es s k)).refusal ≡ 0) (sym q.0)
            (subst (λ (l : List Write). (happens (write (get_or l (writes_by es k) (0 gets 0))) (cut es s k)).refusal ≡ 0) (sym e)
            ((alike_write _ _ (cut es s k) (cut_of P want s (writes_by es k)) (alike k)).refusal
            ∙ cut.taken mid good want s r (writes_by es k) (at_write_lem k q.1)))) (which es k h)

        muted_cut : (k : ℕ) → 0 < writes_by es k → writes_by es k < length (writes_of es) → Muted (cut es s k)
        muted_cut k lo hi = alike_muted (cut es s k) (cut_of P want s (writes_by es k)) (alike k) (go (writes_by es k) lo (at_write_lem k hi))
          where
            go : (j : ℕ) → 0 < j → j < length ws → Muted (cut_of P want s j)
            go zero lo hi = absurd (not-suc-le-zero lo)
            go (suc j) lo hi = cut.mutes mid good want s r j hi

        packet_cut : (g : Group) → ((j : ℕ) → (in_use packets g (cut_of P want s j) ≡ in_use packets g s)
            ⊎ (in_use packets g (cut_of P want s j) ≡ in_use packets g (end_of P want s)))
            → in_use packets g (end_of P want s) ≡ registers_of g (end_of P want s).image
            → (k : ℕ) → Either (in_use packets g s) (registers_of g end) (in_use packets g (cut es s k))
        packet_cut g o q k =
            let a : in_use packets g (cut es s k) ≡ in_use packets g (cut_of P want s (writes_by es k)) = alike_use g (cut es s k) _ (alike k) in
            ⊎_map (λ x. a ∙ x) (λ x. a ∙ x ∙ q ∙ ap (registers_of g) image_end) (o (writes_by es k))

        careful : Careful (λ fs. old fs s) (standing end) es s
        careful = record {
          fair = all_fair;
          taken = all_taken;
          between = λ k lo hi. record {
            muted = muted_cut k lo hi;
            avi = packet_cut avi ((cut.avi_latched mid good).either want s r) (cut.ended mid good want s r).avi k;
            audio = packet_cut audio ((cut.audio_latched mid good).either want s r) (cut.ended mid good want s r).audio k;
            matrix = let l : k < length es = within es k hi in matrix_cut k (omega (arith, l));
          };
        }

        covers : Covered es s
        covers = record {
          moves = λ a k n m. ⊎_elim (λ q. absurd (m (same a k q))) (λ q. both a k n m q) (counted es k);
          vic = λ k m. ⊎_map (λ x. alike_muted (cut es s k) _ (alike k) x) (λ x. subst (λ (l : List Write). length l ≤ writes_by es k) (sym e) x)
              (cut.vic mid good want s r (writes_by es k) (λ q. m (ap (λ (l : List ℕ). get_or l reg.vic_manual 0) (alike k).image ∙ q)));
        }
          where
            byte : (a k : ℕ) → get_or (cut es s k).image a 0 ≡ get_or (cut_of P want s (writes_by es k)).image a 0
            byte a k = ap (λ (l : List ℕ). get_or l a 0) (alike k).image

            same : (a k : ℕ) → writes_by es (suc k) ≡ writes_by es k → get_or (cut es s (suc k)).image a 0 ≡ get_or (cut es s k).image a 0
            same a k q = byte a (suc k) ∙ ap (λ (j : ℕ). get_or (cut_of P want s j).image a 0) q ∙ sym (byte a k)

            both : (a k : ℕ) → a ≢ reg.av_mute → get_or (cut es s (suc k)).image a 0 ≢ get_or (cut es s k).image a 0
                → writes_by es (suc k) ≡ suc (writes_by es k) → Muted (cut es s k) × Muted (cut es s (suc k))
            both a k n m q =
                let o = cut.covered mid good want s r a (writes_by es k) n
                (λ x. m (byte a (suc k) ∙ ap (λ (j : ℕ). get_or (cut_of P want s j).image a 0) q ∙ x ∙ sym (byte a k))) in (
                  alike_muted (cut es s k) _ (alike k) o.0,
                  alike_muted (cut es s (suc k)) _ (alike (suc k)) (subst (λ (j : ℕ). Muted (cut_of P want s j)) (sym q) o.1),
                )

        pub clauses : Clauses end ws es s
        clauses = record {
          before = before_first es s;
          careful = careful;
          covered = covers;
          untouched = untouched es s all_fair;
          registers = image_run;
          ended = ended;
          since = since;
          at_once = λ k. at_once_lem (cut es s k);
          unfinished = record {
            opened = alike_open (run es s) (end_of P want s) alike_end (cut.ended mid good want s r).opened;
            either = subst (λ (l : List Event). Either (old l s).matrix (standing end).matrix (coefficients (run l s))) (take-length es)
                (matrix_cut (length es) (le_refl (length es)));
            late = late;
          };
        }
