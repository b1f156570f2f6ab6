-- Our own lists pass, the empty list, and what a list that passes gives. Assumes nothing.
use mathlib.Core.Path.{◌≡◌, refl, sym, ap, subst, ◌∙◌}
use mathlib.Core.Logic.{◌↔◌, ◌≢◌, inl, inr}
use mathlib.Core.Bool.{Bool, true, false, false≢true, cond, not, ◌&&◌, ◌||◌}
use mathlib.Core.List.{List, [], ◌∷◌, ◌++◌, append_assoc}
use Prim.Native.Nat.{ℕ, zero, suc, ◌*◌, ◌-◌, ◌<◌, ◌≤◌}
use native.Mathlib.Nat.{not-suc-le-zero}
use native.Mathlib.Omega.{arith}
use lib.Dec.{eqb}
use lib.ListN.{length, get_or, take}
use lib.Seq.{take_at, take-length}
use borrow.Author.Tests.{eqb-true, eq-eqb, le-ltb, not-false}
use Rattle.bits.specs.Merge.{bit, bits_in}
use Rattle.bits.proofs.Laws.{bit_code}
use Rattle.matrix.specs.Matrix.{Bytes, fields}
use Rattle.request.specs.Numbered.{Checked}
use Rattle.request.specs.Read.{read_of, pair_for, ncts_of}
use Rattle.request.specs.Bytes.{as_bytes, request_in_family, answered_as}
use Rattle.request.specs.declared.Request.{Request}
use Rattle.chip.specs.declared.Chip.{Chip}
use Rattle.chip.specs.Machine.{Write, Group, Buffer, avi, audio, gc, matrix, packets, converter, up, holds_of, registers_of, held, in_use, coefficients, Muted, Open}
use Rattle.chip.specs.Write.{two, vsync_of}
use Rattle.chip.proofs.Writes.{turned}
use Rattle.views.specs.Entry.{is_sized, Lent, state_of}
use Rattle.views.specs.Sized.{LentSized}
use Rattle.views.specs.Refusals.{Sized}
use Rattle.views.specs.Faces.{Faces}
use Rattle.writes.specs.List.{pairs_of, flat, write_list, finished, finished_image, ready}
use Rattle.writes.proofs.Pairs.{length_flat, length_pairs, pairs_flat}
use Rattle.writes.proofs.Image.{image_length_lem, image_at, is_image}
use Rattle.writes.proofs.Fewer.{fewer}
use Rattle.plan.specs.Wanted.{wanted}
use Rattle.plan.specs.Plan.{plan_of}
use Rattle.plan.specs.Rules.{HoldsUp}
use Rattle.plan.proofs.Fine.{Fine, fine}
use Rattle.plan.proofs.Ordered.{holds_up_lem}
use Rattle.lists.specs.Find.{every}
use Rattle.lists.proofs.Both.{both_left, both_right}
use Rattle.lists.proofs.Decides.{refuted}
use Rattle.decode.proofs.Answers.{read_back_lem}
use Rattle.cut.specs.Run.{Event, run, cut, writes_of, writes_by, InUse, all_in_use, standing, Either, Between}
use Rattle.cut.specs.Vsync.{change_waits, turned_over, old, waited, leaves_hold, FinishedRun}
use Rattle.cut.specs.Room.{sent}
use Rattle.cut.specs.Room.{Room}
use Rattle.cut.specs.Demand.{to_its_end, After, Same, Clauses, Demand3}
use Rattle.cut.specs.Mended.{Mended}
use Rattle.cut.proofs.GroupStays.{down_part}
use Rattle.cut.proofs.FairRunLeaves.{untouched}
use Rattle.cut.proofs.Repeated.{retries}
use Rattle.cut.proofs.NoneRefused.{neat_two}
use Rattle.cut.proofs.AtEveryCut.{Ready, Near, finished_near}
use Rattle.cut.proofs.MendedRun.{single, near, mended}
use Rattle.cut.proofs.MuteCovers.{address, gc_byte, covered, opens}
use Rattle.cut.proofs.VsyncsLeave.{alike_self, alike_use, alike_muted, run_alike, cut_alike}
use Rattle.cut.proofs.VsyncsLeave as packets_alike
use Rattle.cut.proofs.ClausesOfRuns.{nothing_waits, after_same}
use Rattle.cut.proofs.DemandOfGoodLists.{waited_writes, waited_finishes}
use Rattle.cut.proofs.DemandOfWriteList.{holds, room_left}
use Rattle.vendor.specs.Numbered.{Verdict}
use Rattle.vendor.specs.Vendor.{pair_at, cut_at, end_of, pairs_by, Inside, Decodable, Passes, WrongLength}
use Rattle.vendor.specs.Found.{vet_of}
use Rattle.vendor.specs.Theorems.{Readable}
use Rattle.vendor.proofs.Judged.{vetted, passed, fourteen, not_fourteen}
use Rattle.vendor.proofs.Verdicts.{ends_whole}
use Rattle.vendor.proofs.Alike.{Alike, same_verdict}
use Rattle.vendor.proofs.Ended.{last_of}
use Rattle.vendor.proofs.Careful.{CarefulList, pairs_first, last_event, cut_by_pairs, careful_passes, passes_careful}
use Rattle.plan.specs.Places.{places, Shows}
use Rattle.promises.specs.Rules.{asked, Listed}
use Rattle.promises.specs.LentBytes.{bytes_left, entered}
use Rattle.promises.specs.Said.{mute_said, Entering}
use Rattle.promises.specs.AnyCut.{list_of}
use Rattle.promises.specs.Vendors.{input_of, Passing, PassingToo, Vendors}
use Rattle.promises.proofs.AnyCut.{any_cut, accepted, listed, again_fine}
use Rattle.plan.proofs.Shown.{picked}
use Rattle.promises.proofs.LentBytes.{entered_run, faced, end_faces, says_open, enters_so}
use Rattle.promises.proofs.Shown.{shown}

-- ---- our own lists

-- no more pairs than a list has, and whole ones
not_wrong : (ws : List Write) → length ws ≤ 128 → WrongLength (flat ws) → ⊥
not_wrong ws few (inl e) = omega (arith, e, length_flat ws)
not_wrong ws few (inr h) = let n : length (pairs_of (flat ws)) ≡ length ws = ap length (pairs_flat ws) in omega (arith, h, n, few)

-- a list of ours raises the hold before its Vsync, so that what waits at the start is dropped
not_turned : (xs ys : List Write) (y : Write) (k : ℕ) → leaves_hold xs ≡ false
    → every (λ w. not (eqb w.address 0x1A) || eqb (bit 5 w.value) 1) xs ≡ true → turned_over (take k (waited (xs ++ y ∷ ys))) ≡ false
not_turned xs ys y zero n r = refl
not_turned [] ys y (suc k) n r = absurd (false≢true (sym n))
not_turned (w ∷ []) ys y (suc k) n r = first w (eqb w.address 0x1A) (turned_over (take k (waited (y ∷ ys)))) n r
  where
    first : (w : Write) (a m : Bool) → (not a && true) ≡ false → ((not a || eqb (bit 5 w.value) 1) && true) ≡ true
        → (not (a && eqb (bit 5 w.value) 1) && m) ≡ false
    first w true m n r = rw (both_left (eqb (bit 5 w.value) 1) true r)
    first w false m n r = absurd (false≢true (sym n))
not_turned (w ∷ v ∷ xs) ys y (suc k) n r = go (eqb w.address 0x1A) n r (not_turned (v ∷ xs) ys y k)
  where
    go : (a : Bool) → (not a && leaves_hold (v ∷ xs)) ≡ false
        → ((not a || eqb (bit 5 w.value) 1) && every (λ w. not (eqb w.address 0x1A) || eqb (bit 5 w.value) 1) (v ∷ xs)) ≡ true
        → (leaves_hold (v ∷ xs) ≡ false → every (λ w. not (eqb w.address 0x1A) || eqb (bit 5 w.value) 1) (v ∷ xs) ≡ true
        → turned_over (take k (waited (v ∷ xs ++ y ∷ ys))) ≡ false)
        → (not (a && eqb (bit 5 w.value) 1) && turned_over (take k (waited (v ∷ xs ++ y ∷ ys)))) ≡ false
    go true n r ih = rw (both_left (eqb (bit 5 w.value) 1) _ r)
    go false n r ih = ih n (both_right true _ r)

module _ (want : ℕ → ℕ) (s : Chip) (d : Demand3 (write_list want) want s) where
  abbrev list : List Write
  list = write_list want s.image

  never_turned : (k : ℕ) → turned_over (take k (waited list)) ≡ false
  never_turned k =
      let r : Room list = room_left want s (d.sized [] tt) (d.ready [] tt) in
      subst (λ (l : List Write). turned_over (take k (waited l)) ≡ false)
      (sym (r.split ∙ append_assoc r.front (r.lowering ∷ r.back) (r.opening ∷ [])))
      (not_turned r.front (r.back ++ r.opening ∷ []) r.lowering k r.risen r.raised)

  runs_so : Clauses (finished_image want s.image) list (waited list) s
  runs_so = d.runs (waited list) (waited_writes list)

  ends_so : After (end_of list s)
  ends_so = runs_so.ended d.waits

  ended_use : standing (finished_image want s.image) ≡ all_in_use (end_of list s)
  ended_use = sym ((λ j. record { avi = ends_so.avi j; audio = ends_so.audio j; matrix = ends_so.matrix j }) ∙ ap standing runs_so.registers)

  own_careful : CarefulList list s
  own_careful = record {
    fair = runs_so.careful.fair;
    taken = runs_so.careful.taken;
    between = λ k lo hi.
        subst (λ (n : InUse). Between (all_in_use s) n (cut_at list s k)) ended_use
        (subst (λ (o : InUse). Between o (standing (finished_image want s.image)) (cut_at list s k)) (began k) (runs_so.careful.between k lo hi));
  }
    where
      never : (b t : Bool) → t ≡ false → (b && t) ≡ false
      never true t e = e
      never false t e = refl

      began : (k : ℕ) → old (take k (waited list)) s ≡ all_in_use s
      began k =
          ap (λ (b : Bool). record { avi = in_use packets avi s; audio = in_use packets audio s; matrix = cond b (fields (registers_of matrix s.image)) (coefficients s) })
          (never (change_waits s) (turned_over (take k (waited list))) (never_turned k))

own : (input buffer : List ℕ) (s : Chip) → Bytes input → Sized s → (plan_of input s.image buffer).refusal ≡ 0
    → vet_of s (bytes_left input s.image buffer) ≡ record { refusal = 0; place = 0 }
own input buffer s b z e =
    let f = fine input s.image buffer e in
    let l : Listed input s.image buffer = listed input s.image buffer f in
    let ws : List Write = write_list (asked input) s.image in
    let d : Demand3 (list_of input) (asked input) s = holds (asked input) s f.whole f.clear in
    let bytes : bytes_left input s.image buffer ≡ flat ws = rw (l.count, l.list) (take_at (flat ws) _ (2 * length ws) (length_flat ws)) in
    let few : length ws ≤ 128 = (fewer (asked input) s.image).bound in
    let ran = (read_back_lem input s.image (end_of ws s).image).ends (record {
      bytes = b;
      read = f.read;
      paired = eqb-true _ _ f.paired;
      sized = ap length (runs_so (asked input) s d).registers ∙ image_length_lem (asked input) s.image;
      registers = λ a h. ap (λ (i : List ℕ). get_or i a 0) (runs_so (asked input) s d).registers ∙ image_at (asked input) s.image a h;
    }) in
    let q : Passes ws s = careful_passes ws s (own_careful (asked input) s d) (record { request = answered_as (read_of input).request; ends = ran }) in
    let r : Readable s (flat ws) = record { sized = z; holds = (holds_up_lem s.image).fails (ap (λ (c : Bool). not c) f.clear); whole = not_wrong ws few } in
    ap (vet_of s) bytes ∙ sym (passed s (flat ws) r (subst (λ (l : List Write). Passes l s) (sym (pairs_flat ws)) q))

-- ---- the empty list

empty : (s : Chip) → Sized s → (HoldsUp s.image → ⊥) → ((vet_of s []).refusal ≡ 0) ↔ Decodable s.image
empty s z h = (
  λ e. ((vetted s []).accepted.0 e).1.decodes,
  λ d. ap (λ (v : Verdict). v.refusal) (sym (passed s [] (record { sized = z; holds = h; whole = none }) (careful_passes [] s careful d))),
)
  where
    none : WrongLength [] → ⊥
    none (inl e) = omega (arith, e)
    none (inr e) = omega (arith, e)

    careful : CarefulList [] s
    careful = record {
      fair = λ k h. absurd (not-suc-le-zero h);
      taken = λ k h. absurd (not-suc-le-zero h);
      between = λ k lo hi. absurd (not-suc-le-zero hi);
    }

-- ---- an image that decodes has its holds down and the picture open

module _ (t : Chip) (whole : length t.image ≡ 256) (clear : ready t.image ≡ true) (d : Decodable t.image) where
  abbrev q : Request
  q = request_in_family d.ends.family d.request

  -- the holds and the mute, as the named fields have them
  bits : (bits_in 6 5 (get_or t.image 0x4A 0) ≡ 0) × (bits_in 5 5 (get_or t.image 0x1A 0) ≡ 0)
      × (bits_in 6 6 (get_or t.image 0x4B 0) ≡ 0) × (bits_in 7 7 (get_or t.image 0x4B 0) ≡ 1)
  bits =
      let at = picked (Shows t.image) (places q (ncts_of (as_bytes q))) ((shown t.image).stands whole d.request d.ends).fields in
      (at 0x4A 6 refl, at 0x1A 5 refl, at 0x4B 6 refl, at 0x4B 7 refl)

  down : (j n : ℕ) → bit j n ≡ 0 → eqb (bit j n) 1 ≡ false
  down j n e = rw e

  gc_down : up gc (holds_of packets t.image) ≡ false
  gc_down = go (up gc (holds_of packets t.image)) _ clear
    where
      go : (a b : Bool) → (not a && b) ≡ true → a ≡ false
      go true b e = absurd (false≢true e)
      go false b e = refl

  opening : Open t
  opening =
      rw (gc_byte t gc_down) (bit_code 6 (get_or t.image 0x4B 0) ∙ omega (arith, bits.2), bit_code 7 (get_or t.image 0x4B 0) ∙ omega (arith, bits.3))

  hold_down : held t ≡ false
  hold_down = down 5 _ (bit_code 5 (get_or t.image 0x1A 0) ∙ omega (arith, bits.1))

  ended : t.waiting ≡ false → After t
  unfolding coefficients
  ended idle = record {
    opened = opening;
    avi = down_part packets avi t refl (down 6 _ (bit_code 6 (get_or t.image 0x4A 0) ∙ omega (arith, bits.0)));
    audio = down_part packets audio t refl (down 5 _ (bit_code 5 (get_or t.image 0x4A 0) ∙ omega (arith, bits.0)));
    matrix = ap fields (down_part converter matrix t idle hold_down);
  }

-- one Vsync later nothing waits
after_vsync : (t : Chip) → length t.image ≡ 256 → ready t.image ≡ true → Decodable t.image → After (vsync_of t)
after_vsync t whole clear d =
    let e : t.image ≡ (vsync_of t).image = sym (turned t).image in
    ended (vsync_of t) (ap length (sym e) ∙ whole) (ap ready (sym e) ∙ clear) (subst Decodable e d) ((turned t).ends (hold_down t whole clear d))

-- ---- a list that passes

module _ (list : List ℕ) (s : Chip) (z : Sized s) (clear : ready s.image ≡ true) (v : Passes (pairs_of list) s) where
  abbrev ws : List Write
  ws = pairs_of list

  abbrev es : List Event
  es = waited ws

  abbrev end : Chip
  end = end_of ws s

  c : CarefulList ws s
  c = passes_careful list s z clear v

  fit : Ready s.image
  fit = record { whole = z.image; holds = clear }

  m : (want : ℕ → ℕ) → Mended (write_list want) es s
  m want = mended want es s z.image clear c.fair c.taken

  last : cut_at ws s (length es) ≡ end
  last = ap (λ (fs : List Event). run fs s) (take-length es)

  end_whole : length end.image ≡ 256
  end_whole = ends_whole ws s z.image

  end_clear : ready end.image ≡ true
  end_clear = rw last at ((m (λ _. 0)).ready (length es))

  -- the request in which it ends
  abbrev d : Decodable end.image
  d = v.decodes

  is_open_lem : Open end
  is_open_lem = opening end end_whole end_clear d

  later : After (vsync_of end)
  later = after_vsync end end_whole end_clear d

  one_hold : (k : ℕ) → two (holds_of packets (cut_at ws s k).image) ≡ false
  one_hold = single es s c.taken (neat_two (holds_of packets s.image) clear)

  as_many : length (writes_of es) ≡ length ws
  as_many = ap length (waited_writes ws)

  -- the last pair opens
  last_pair_lem : (k : ℕ) → 0 < k → suc k ≡ length ws → (pair_at ws k).address ≡ 0x4B
  last_pair_lem k lo hi =
      let r = last_event ws k hi in
      ap address (sym r.0)
      ∙ opens (λ fs. all_in_use s) (all_in_use end) es s fit c (suc k) (rw r.1 lo) (omega (arith, r.1, as_many, hi)) r.2 is_open_lem

  -- so with two pairs or more nothing waits at the end
  nothing : 2 ≤ length ws → vsync_of end ≡ end
  nothing two =
      let k : ℕ = length ws - 1 in
      let h : suc k ≡ length ws = omega (arith, two) in
      let by_last : ws ≡ take k ws ++ pair_at ws k ∷ [] = last_of ws k (sym h) in
      let a : (pair_at ws k).address ≡ 0x4B = last_pair_lem k (omega (arith, two)) h in
      let f : FinishedRun ws es =
      subst (λ (l : List Write). FinishedRun l (waited l)) (sym by_last) (waited_finishes (take k ws) (pair_at ws k) (ap (λ (n : ℕ). not (eqb n 0x1A)) a)) in
      ((turned end).idle (nothing_waits ws es s z.image f (hold_down end end_whole end_clear d))).0

  -- wherever Vsyncs come
  module _ (fs : List Event) (e : writes_of fs ≡ ws) where
    same_cut : (k : ℕ) → writes_by fs k < length ws → packets_alike.Alike (cut fs s k) (cut_at ws s (writes_by fs k))
    same_cut k h =
        let j : ℕ = writes_by fs k in
        let a : packets_alike.Alike (cut fs s k) (cut (sent ws) s j) = subst (λ (l : List Write). packets_alike.Alike (cut fs s k) (cut (sent l) s j)) e (cut_alike fs s k) in
        let b : packets_alike.Alike (cut_at ws s j) (cut (sent ws) s j) =
        subst (λ (n : ℕ). packets_alike.Alike (cut_at ws s j) (cut (sent ws) s n)) (pairs_first ws j h) (cut_by_pairs ws s j) in
        record { image = a.image ∙ sym b.image; packet = a.packet ∙ sym b.packet }

    same_end : (run fs s).image ≡ end.image
    same_end =
        (run_alike fs s s (alike_self s)).image ∙ ap (λ (l : List Write). (run (sent l) s).image) (e ∙ sym (waited_writes ws))
        ∙ sym (run_alike es s s (alike_self s)).image

    any_where : (k : ℕ) → 0 < writes_by fs k → writes_by fs k < length ws
        → Muted (cut fs s k) × Either (in_use packets avi s) (in_use packets avi end) (in_use packets avi (cut fs s k))
        × Either (in_use packets audio s) (in_use packets audio end) (in_use packets audio (cut fs s k))
    any_where k lo hi =
        let j : ℕ = writes_by fs k in
        let a : packets_alike.Alike (cut fs s k) (cut_at ws s j) = same_cut k hi in
        let n : pairs_by ws j ≡ j = pairs_first ws j hi in
        let i : Inside ws j = (rw n lo, rw n hi) in (
          alike_muted (cut fs s k) (cut_at ws s j) a (v.muted j i),
          subst (Either (in_use packets avi s) (in_use packets avi end)) (sym (alike_use avi (cut fs s k) (cut_at ws s j) a)) (v.avi j i),
          subst (Either (in_use packets audio s) (in_use packets audio end)) (sym (alike_use audio (cut fs s k) (cut_at ws s j) a)) (v.audio j i),
        )

    any_end_lem : ((run fs s).image ≡ end.image) × After (vsync_of (run fs s))
    any_end_lem = (
      same_end,
      after_vsync (run fs s) (ap length same_end ∙ end_whole) (ap ready same_end ∙ end_clear) (subst Decodable (sym same_end) d),
    )

  -- over slices that hold the state
  module _ (l : Lent) (y : LentSized l) (at : state_of l ≡ s) where
    c_slices : CarefulList ws (state_of l)
    c_slices = subst (CarefulList ws) (sym at) c

    single_slices : (k : ℕ) → two (holds_of packets (cut es (state_of l) k).image) ≡ false
    single_slices = subst (λ (t : Chip). (k : ℕ) → two (holds_of packets (cut es t k).image) ≡ false) (sym at) one_hold

    enters_list : Entering (λ fs. l) es l
    enters_list =
        enters_so l y es single_slices (λ fs. all_in_use (state_of l)) (all_in_use (end_of ws (state_of l))) c_slices (λ fs. l)
        (λ fs. (faced l y (single_slices 0), refl))
        (subst (λ (ps : List Write). Faces (state_of (entered (waited ps) l))) (sym (waited_writes ws)) (end_faces l y es single_slices))
        (subst (λ (ps : List Write). all_in_use (state_of (entered (waited ps) l)) ≡ all_in_use (end_of ws (state_of l))) (sym (waited_writes ws))
        (ap all_in_use (entered_run es l y)))

    opens_list : mute_said (entered es l) ≡ record { refusal = 0; mute = 2 }
    opens_list = says_open l y es single_slices (subst (λ (t : Chip). Open (run es t)) (sym at) is_open_lem)

    cuts_list : (k : ℕ) → state_of (entered (take k es) l) ≡ cut_at ws s k
    cuts_list k = entered_run (take k es) l y ∙ ap (λ (t : Chip). cut es t k) at

  abbrev asking : Request
  asking = request_in_family d.ends.family d.request

  said : (read_of (input_of d)).request ≡ asking
  said = ap (λ (x : Checked). x.request) d.ends.acceptable.read

  suits : (room : List ℕ) → 256 ≤ length room → Fine (input_of d) s.image room
  suits room long = record {
    read = ap (λ (x : Checked). x.refusal) d.ends.acceptable.read;
    whole = z.image;
    clear = clear;
    paired = eq-eqb _ 0 (ap (λ (x : Request). (pair_for x).refusal) said ∙ d.ends.acceptable.paired);
    long = le-ltb (length room) 256 long;
  }

  own_run : Demand3 (list_of (input_of d)) (asked (input_of d)) s
  own_run = holds (asked (input_of d)) s z.image clear

  same_image : end.image ≡ (to_its_end (list_of (input_of d)) s).image
  same_image =
      is_image (asked (input_of d)) s.image end.image end_whole (λ a h.
      sym (d.ends.stands a h) ∙ ap (λ (x : Request). finished (wanted x) end.image a) (sym said)
      ∙ finished_near (asked (input_of d)) s end
      (subst (λ (t : Chip). Near s t) last (near es s fit c.fair c.taken (length es))) a h)
      ∙ sym (runs_so (asked (input_of d)) s own_run).registers

  as_ours : Same (to_its_end (list_of (input_of d)) s) (vsync_of end)
  as_ours = after_same (to_its_end (list_of (input_of d)) s) (vsync_of end) (ends_so (asked (input_of d)) s own_run) later ((turned end).image ∙ same_image)

  passes : Passing list s
  passes = record {
    careful = c;
    opens = is_open_lem;
    ended = later;
    untouched = untouched es s c.fair;
    ends = d;
    accepted = λ room long. accepted (input_of d) s.image room (suits room long);
    ours = as_ours;
    mended = λ input buffer a k room long.
        let t : Chip = cut_at ws s k in
        let f = fine input s.image buffer a in
        let y = again_fine input s.image buffer f t.image room ((m (asked input)).whole k) ((m (asked input)).ready k) long in
        let e = accepted input t.image room y in
        (e, any_cut input room t e, (m (asked input)).again k);
  }

  passes_too : PassingToo list s
  passes_too = record {
    at_once = nothing;
    anywhere = any_where;
    any_end = any_end_lem;
    entering = enters_list;
    opened = opens_list;
    slices = cuts_list;
    covered = λ h. covered (λ fs. all_in_use s) (all_in_use end) es s fit c (rw as_many h);
    closes = last_pair_lem;
    retries = retries es s z.image c.taken;
  }

passing : (list : List ℕ) (s : Chip) → (vet_of s list).refusal ≡ 0 → Passing list s × PassingToo list s
passing list s e =
    let v = (vetted s list).accepted.0 e in
    let clear = not-false _ (refuted (holds_up_lem s.image) v.0.holds) in
    (passes list s v.0.sized clear v.1, passes_too list s v.0.sized clear v.1)

-- ---- "At most 512 pairs"

sizes : (list : List ℕ) (s : Chip) → Sized s → (HoldsUp s.image → ⊥)
    → (length list ≡ 1024 → (vet_of s list).refusal ≢ 14) × (length list ≡ 1026 → (vet_of s list).refusal ≡ 14)
    × (length list ≡ 1023 → (vet_of s list).refusal ≡ 14)
sizes list s z h = (
  λ e. not_fourteen s list z h (fits e),
  λ e. fourteen s list z h (inr (omega (arith, e, length_pairs list))),
  λ e. fourteen s list z h (inl (omega (arith, e))),
)
  where
    fits : length list ≡ 1024 → WrongLength list → ⊥
    fits e (inl o) = omega (arith, e, o)
    fits e (inr o) = omega (arith, e, o, length_pairs list)

-- ---- the buffers, where no hold is up

module _ (s t : Chip) (e : t.image ≡ s.image) (h : bits_in 6 4 (get_or s.image 0x4A 0) ≡ 0) (k : bits_in 5 5 (get_or s.image 0x1A 0) ≡ 0)
    (i : s.waiting ≡ false) (j : t.waiting ≡ false) where
  lowered : (b : Buffer) (g : Group) → b.waits s ≡ false → b.waits t ≡ false → up g (holds_of b s.image) ≡ false → in_use b g t ≡ in_use b g s
  lowered b g x y d =
      down_part b g t y (ap (λ (i : List ℕ). up g (holds_of b i)) e ∙ d) ∙ ap (registers_of g) e ∙ sym (down_part b g s x d)

  zero_bit : (j n : ℕ) → bit j n ≡ 0 → eqb (bit j n) 1 ≡ false
  zero_bit j n z = rw z

  alike : Alike s t
  alike = record {
    image = e;
    avi = lowered packets avi refl refl (zero_bit 6 _ (bit_code 6 (get_or s.image 0x4A 0) ∙ omega (arith, h)));
    audio = lowered packets audio refl refl (zero_bit 5 _ (bit_code 5 (get_or s.image 0x4A 0) ∙ omega (arith, h)));
    gc = lowered packets gc refl refl (zero_bit 4 _ (bit_code 4 (get_or s.image 0x4A 0) ∙ omega (arith, h)));
    matrix = lowered converter matrix i j (zero_bit 5 _ (bit_code 5 (get_or s.image 0x1A 0) ∙ omega (arith, k)));
    waiting = λ h. j ∙ sym i;
  }

sized_alike : (s t : Chip) → Sized s → Sized t → is_sized t ≡ is_sized s
sized_alike s t z y = rw (z.image, z.packet, z.coefficients, y.image, y.packet, y.coefficients) refl

buffers : (s t : Chip) (list : List ℕ) → Sized s → Sized t → t.image ≡ s.image → bits_in 6 4 (get_or s.image 0x4A 0) ≡ 0
    → bits_in 5 5 (get_or s.image 0x1A 0) ≡ 0 → s.waiting ≡ false → t.waiting ≡ false → vet_of t list ≡ vet_of s list
buffers s t list z y e h k i j = same_verdict s t list (alike s t e h k i j) z.image (sized_alike s t z y)

asks : (s t : Chip) (list : List ℕ) → Sized s → Sized t → t.image ≡ s.image → in_use packets avi t ≡ in_use packets avi s
    → in_use packets audio t ≡ in_use packets audio s → in_use packets gc t ≡ in_use packets gc s
    → in_use converter matrix t ≡ in_use converter matrix s → (held s ≡ false → t.waiting ≡ s.waiting) → vet_of t list ≡ vet_of s list
asks s t list z y e i a g m w =
    same_verdict s t list (record { image = e; avi = i; audio = a; gc = g; matrix = m; waiting = w }) z.image (sized_alike s t z y)

pub vendors : Vendors
vendors = record { own = own; sizes = sizes; empty = empty; buffers = buffers; asks = asks; passing = passing }
