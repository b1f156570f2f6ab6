-- The bytes that planning leaves, written into the lent slices with Vsyncs anywhere among them: the run of the list, and what the calls
-- answer along it. Assumes nothing.
use mathlib.Core.Path.{◌≡◌, refl, sym, ap, subst, ◌∙◌}
use mathlib.Core.Logic.{◌⊎◌, inl, inr, ⊎_map, ⊎_elim}
use mathlib.Core.Bool.{Bool, true, false, cond, not, ◌&&◌}
use mathlib.Core.List.{List, [], ◌∷◌, ◌++◌}
use Prim.Native.Nat.{ℕ, zero, suc, ◌*◌, ◌<◌, ◌≤◌}
use native.Mathlib.Nat.{suc-ne-zero}
use native.Mathlib.Omega.{arith}
use lib.ListN.{length, get_or, take, drop}
use lib.Seq.{take_at, take-length}
use borrow.Author.Tests.{not-true}
use Rattle.lists.proofs.Both.{both_left}
use Rattle.bits.specs.Merge.{bit}
use Rattle.matrix.specs.Matrix.{fields}
use Rattle.matrix.specs.Coefficient.{coefficient_bytes}
use Rattle.frames.specs.Frames.{avi_frame}
use Rattle.request.specs.declared.Request.{Request}
use Rattle.request.specs.Read.{read_of}
use Rattle.chip.specs.declared.Chip.{Chip}
use Rattle.chip.specs.Machine.{Write, avi, audio, matrix, packets, holds_of, registers_of, held, in_use, coefficients, mode_in_use, gc_in_use, Muted, Open, mute}
use Rattle.chip.specs.Write.{two, vsync_of}
use Rattle.chip.proofs.Writes.{turned}
use Rattle.views.specs.Entry.{Lent, SliceAnswer, state_of, slices_of, turn_of}
use Rattle.views.specs.Sized.{LentSized}
use Rattle.views.specs.Faces.{Faces}
use Rattle.views.proofs.Shown as views
use Rattle.views.proofs.Lent.{state_sized}
use Rattle.writes.specs.List.{flat, pairs_of, write_list, finished_image, ready}
use Rattle.plan.specs.Plan.{plan_of, plan_buffer}
use Rattle.writes.proofs.Pairs.{length_flat, pairs_flat}
use Rattle.cut.specs.Run.{Event, write, vsync, run, cut, event, happens, writes_of, writes_by, InUse, all_in_use, standing, Between, Careful}
use Rattle.cut.specs.Vsync.{change_waits, turned_over, old, waited, FinishedRun}
use Rattle.cut.specs.Demand.{Cut, cuts, PlannedAgain, to_its_end, After, Same, Clauses, Demand3}
use Rattle.cut.proofs.NoneRefused.{neat_two}
use Rattle.cut.proofs.Repeated.{turned_again}
use Rattle.cut.proofs.ClausesOfRuns.{after_same}
use Rattle.cut.proofs.DemandOfGoodLists.{waited_writes}
use Rattle.vendor.proofs.Moved.{vsync_use}
use Rattle.plan.specs.Places.{audio_packet}
use Rattle.promises.specs.Rules.{asked}
use Rattle.promises.specs.AnyCut.{list_of, Headed}
use Rattle.promises.specs.LentBytes.{pairs_left, enters, entered, entered_cuts, OverSlices}
use Rattle.promises.specs.Said.{old_slices, avi_sent, audio_sent, mute_said, matrix_said, SaidBetween, SaidAfter, Entering, Followed}

pub left : (input image buffer : List ℕ) → let ws : List Write = write_list (asked input) image in
    (plan_of input image buffer).count ≡ length ws → plan_buffer input image buffer ≡ flat ws ++ drop (length (flat ws)) buffer
    → pairs_left input image buffer ≡ ws
left input image buffer count list =
    let ws : List Write = write_list (asked input) image in
    rw (count, list) (ap pairs_of (take_at (flat ws) _ (2 * length ws) (length_flat ws)) ∙ pairs_flat ws)

-- the numbers of muted and open
one : (t : Chip) → Muted t → mute t ≡ 1
one t m = let set : bit 6 (gc_in_use t) ≡ 1 = m.0 in let clear : bit 7 (gc_in_use t) ≡ 0 = m.1 in omega arith

two_of : (t : Chip) → Open t → mute t ≡ 2
two_of t m = let set : bit 6 (gc_in_use t) ≡ 0 = m.0 in let clear : bit 7 (gc_in_use t) ≡ 1 = m.1 in omega arith

-- ---- over slices of the machine's lengths an event is the machine's own

sized_next : (e : Event) (l : Lent) → LentSized l → LentSized (enters e l).slices
sized_next (write w) l z = (views.entered l z w.address w.value).sized
sized_next vsync l z = (views.entered_vsync l z).sized

state_next : (e : Event) (l : Lent) → LentSized l → state_of (enters e l).slices ≡ (happens e (state_of l)).chip
state_next (write w) l z = (views.entered l z w.address w.value).state
state_next vsync l z = (views.entered_vsync l z).state

number_next : (e : Event) (l : Lent) → LentSized l → (enters e l).refusal ≡ (happens e (state_of l)).refusal
number_next (write w) l z = (views.entered l z w.address w.value).number
number_next vsync l z = ap (λ (x : _). x.refusal) (views.entered_vsync l z).taken

pub sized_entered : (es : List Event) (l : Lent) → LentSized l → LentSized (entered es l)
sized_entered [] l z = z
sized_entered (e ∷ es) l z = sized_entered es (enters e l).slices (sized_next e l z)

pub entered_run : (es : List Event) (l : Lent) → LentSized l → state_of (entered es l) ≡ run es (state_of l)
entered_run [] l z = refl
entered_run (e ∷ es) l z = entered_run es (enters e l).slices (sized_next e l z) ∙ ap (run es) (state_next e l z)

-- before the first write there is nothing but Vsyncs, and they do what the first does
turned_twice : (l : Lent) → LentSized l → (turn_of (turn_of l).slices).slices ≡ (turn_of l).slices
turned_twice l z =
    let q = views.entered_vsync l z in
    ap (λ (e : SliceAnswer). e.slices) (views.entered_vsync (turn_of l).slices q.sized).taken ∙ ap (λ (t : Chip). slices_of (vsync_of t)) q.state
    ∙ ap slices_of (turned_again (state_of l)) ∙ sym (ap (λ (e : SliceAnswer). e.slices) q.taken)

only_turned : (es : List Event) (l : Lent) (k : ℕ) → LentSized l → writes_by es k ≡ 0
    → (entered (take k es) l ≡ l) ⊎ (entered (take k es) l ≡ (turn_of l).slices)
only_turned es l zero z h = inl refl
only_turned [] l (suc k) z h = inl refl
only_turned (write w ∷ es) l (suc k) z h = absurd (suc-ne-zero _ h)
only_turned (vsync ∷ es) l (suc k) z h =
    ⊎_elim (λ e. inr e) (λ e. inr (e ∙ turned_twice l z)) (only_turned es (turn_of l).slices k (views.entered_vsync l z).sized h)

-- so are any cuts of runs over them
pub sized_cuts : (cs : List Cut) (l : Lent) → LentSized l → LentSized (entered_cuts cs l)
sized_cuts [] l z = z
sized_cuts (c ∷ cs) l z = sized_cuts cs (entered (take c.place c.events) l) (sized_entered (take c.place c.events) l z)

pub entered_cuts_lem : (cs : List Cut) (l : Lent) → LentSized l → state_of (entered_cuts cs l) ≡ cuts cs (state_of l)
entered_cuts_lem [] l z = refl
entered_cuts_lem (c ∷ cs) l z =
    let m : Lent = entered (take c.place c.events) l in
    entered_cuts_lem cs m (sized_entered (take c.place c.events) l z) ∙ ap (cuts cs) (entered_run (take c.place c.events) l z)

-- ---- what the calls answer of slices is what the machine has in use

abbrev Single : Chip → Type 0
Single s = two (holds_of packets s.image) ≡ false

pub faced : (l : Lent) → LentSized l → Single (state_of l) → Faces (state_of l)
faced l z o = views.shown (state_of l) (state_sized l z) o

twelve : (l : Lent) → Faces (state_of l) → (out : List ℕ) → 25 ≤ length out
    → drop 1 (matrix_said out l) ≡ coefficient_bytes (coefficients (state_of l)) ++ drop 25 out
twelve l f out h = ap (drop 1) (f.matrix (get_or l.mark 0 0) refl out h)

said_between : (was new t : Lent) → Faces (state_of was) → Faces (state_of new) → Faces (state_of t)
    → Between (all_in_use (state_of was)) (all_in_use (state_of new)) (state_of t) → SaidBetween was new t
said_between was new t f g h b = record {
  muted = h.mute ∙ ap (λ (m : ℕ). record { refusal = 0; mute = m }) (one (state_of t) b.muted);
  avi = rw (h.avi, f.avi, g.avi) b.avi;
  audio = rw (h.audio, f.audio, g.audio) b.audio;
  matrix = λ out long. rw (twelve t h out long, twelve was f out long, twelve new g out long)
      (let laid : List ℕ → List ℕ = λ c. coefficient_bytes c ++ drop 25 out in ⊎_map (ap laid) (ap laid) b.matrix);
}

said_open : (l : Lent) → Faces (state_of l) → Open (state_of l) → mute_said l ≡ record { refusal = 0; mute = 2 }
said_open l f o = f.mute ∙ ap (λ (m : ℕ). record { refusal = 0; mute = m }) (two_of (state_of l) o)

-- any run of which no event is refused, and no cut has two packet holds up
pub over_slices : (l : Lent) → LentSized l → (es : List Event) → ((k : ℕ) → Single (cut es (state_of l) k))
    → ((k : ℕ) → k < length es → (happens (event es k) (cut es (state_of l) k)).refusal ≡ 0) → OverSlices es l (state_of l)
over_slices l z es single takes = record {
  taken = λ k h.
      number_next (event es k) (entered (take k es) l) (sized_entered (take k es) l z)
      ∙ ap (λ (t : Chip). (happens (event es k) t).refusal) (entered_run (take k es) l z) ∙ takes k h;
  sized = λ k. sized_entered (take k es) l z;
  state = λ k. entered_run (take k es) l z;
  answers = λ k.
      subst Faces (entered_run (take k es) l z)
      (faced (entered (take k es) l) (sized_entered (take k es) l z) (subst Single (sym (entered_run (take k es) l z)) (single k)));
}

-- ---- a careful run, whoever made the list, of which no cut has two packet holds up

module _ (l : Lent) (z : LentSized l) (es : List Event) (single : (k : ℕ) → Single (cut es (state_of l) k)) where
  cut_state : (k : ℕ) → state_of (entered (take k es) l) ≡ cut es (state_of l) k
  cut_state k = entered_run (take k es) l z

  cut_faces : (k : ℕ) → Faces (state_of (entered (take k es) l))
  cut_faces k = faced (entered (take k es) l) (sized_entered (take k es) l z) (subst Single (sym (cut_state k)) (single k))

  pub end_faces : Faces (state_of (entered es l))
  end_faces = subst (λ (fs : List Event). Faces (state_of (entered fs l))) (take-length es) (cut_faces (length es))

  pub says_open : Open (run es (state_of l)) → mute_said (entered es l) ≡ record { refusal = 0; mute = 2 }
  says_open o = said_open (entered es l) end_faces (subst Open (sym (entered_run es l z)) o)

  module _ (was : List Event → InUse) (new : InUse) (c : Careful was new es (state_of l)) (was_slices : List Event → Lent)
      (was_said : (fs : List Event) → Faces (state_of (was_slices fs)) × (all_in_use (state_of (was_slices fs)) ≡ was fs))
      (new_faces : Faces (state_of (entered (waited (writes_of es)) l))) (new_said : all_in_use (state_of (entered (waited (writes_of es)) l)) ≡ new) where
    pub enters_so : Entering was_slices es l
    enters_so = record {
      taken = (over_slices l z es single c.taken).taken;
      sized = (over_slices l z es single c.taken).sized;
      before = λ k h. only_turned es l k z h;
      between = λ k lo hi.
          said_between (was_slices (take k es)) (entered (waited (writes_of es)) l) (entered (take k es) l) (was_said (take k es)).0 new_faces
          (cut_faces k)
          (subst (λ (o : InUse). Between o (all_in_use (state_of (entered (waited (writes_of es)) l))) (state_of (entered (take k es) l)))
          (sym (was_said (take k es)).1)
          (subst (λ (n : InUse). Between (was (take k es)) n (state_of (entered (take k es) l))) (sym new_said)
          (subst (λ (t : Chip). Between (was (take k es)) new t) (sym (cut_state k)) (c.between k lo hi))));
    }

-- ---- request 04's old, in the slices

module _ (l : Lent) (z : LentSized l) (single : Single (state_of l)) where
  abbrev s : Chip
  s = state_of l

  turned_state : state_of (turn_of l).slices ≡ vsync_of s
  turned_state = (views.entered_vsync l z).state

  turned_use : held s ≡ false → all_in_use (state_of (turn_of l).slices) ≡ record { avi = in_use packets avi s; audio = in_use packets audio s; matrix = fields (registers_of matrix s.image) }
  unfolding coefficients
  turned_use h =
      ap all_in_use turned_state ∙ (λ j. record { avi = vsync_use avi s j; audio = vsync_use audio s j; matrix = fields ((turned s).takes h j) })

  pub old_said : (fs : List Event) → Faces (state_of (old_slices fs l)) × (all_in_use (state_of (old_slices fs l)) ≡ old fs s)
  old_said fs = go (change_waits s && turned_over fs) refl
    where
      go : (b : Bool) → (change_waits s && turned_over fs) ≡ b
          → Faces (state_of (cond b (turn_of l).slices l))
          × (all_in_use (state_of (cond b (turn_of l).slices l))
          ≡ record { avi = in_use packets avi s; audio = in_use packets audio s; matrix = cond b (fields (registers_of matrix s.image)) (coefficients s) })
      go true e = (
        (views.entered_vsync l z).faces single,
        turned_use (not-true (held s) (both_left (not (held s)) s.waiting (both_left (change_waits s) (turned_over fs) e))),
      )
      go false e = (faced l z single, refl)

same_mode : (s t : Chip) → t.image ≡ s.image → mode_in_use t ≡ mode_in_use s
same_mode s t e = rw e

-- ---- the run of a request's list

module _ (input : List ℕ) (l : Lent) (z : LentSized l) (d : Demand3 (list_of input) (asked input) (state_of l)) where
  abbrev r : Request
  r = (read_of input).request

  abbrev start : Chip
  start = state_of l

  abbrev own : List Write
  own = list_of input l.image

  abbrev ending : Chip
  ending = to_its_end (list_of input) start

  one_hold : (es : List Event) → writes_of es ≡ own → (k : ℕ) → Single (cut es start k)
  one_hold es e k = neat_two (holds_of packets (cut es start k).image) (d.ready (record { events = es; place = k } ∷ []) (e, tt))

  -- the run with one Vsync just before the last write
  with_vsync : Clauses (finished_image (asked input) l.image) own (waited own) start
  with_vsync = d.runs (waited own) (waited_writes own)

  ended : After ending
  ended = with_vsync.ended d.waits

  ending_faces : Faces (state_of (entered (waited own) l))
  ending_faces = end_faces l z (waited own) (one_hold (waited own) (waited_writes own))

  ending_use : all_in_use (state_of (entered (waited own) l)) ≡ standing (finished_image (asked input) l.image)
  ending_use =
      ap all_in_use (entered_run (waited own) l z) ∙ (λ j. record { avi = ended.avi j; audio = ended.audio j; matrix = ended.matrix j })
      ∙ ap standing with_vsync.registers

  enters_own : (es : List Event) → writes_of es ≡ own → Entering (λ fs. old_slices fs l) es l
  enters_own es e =
      enters_so l z es (one_hold es e) (λ fs. old fs start) (standing (finished_image (asked input) l.image)) (d.runs es e).careful
      (λ fs. old_slices fs l) (old_said l z (one_hold es e 0))
      (subst (λ (ws : List Write). Faces (state_of (entered (waited ws) l))) (sym e) ending_faces)
      (subst (λ (ws : List Write). all_in_use (state_of (entered (waited ws) l)) ≡ standing (finished_image (asked input) l.image)) (sym e) ending_use)

  module _ (new_avi : drop 2 (in_use packets avi ending) ≡ drop 3 (avi_frame r.video))
      (new_audio : drop 2 (in_use packets audio ending) ≡ drop 3 (audio_packet r.sound))
      (head_avi : Headed 0x02 0x0D (in_use packets avi ending)) (head_audio : Headed 0x01 0x0A (in_use packets audio ending))
      (new_matrix : coefficients ending ≡ r.matrix.coefficients) (new_mode : mode_in_use ending ≡ r.matrix.mode) where
    -- slices that hold what that run ends in
    said : (t : Lent) (u : Chip) → state_of t ≡ u → Faces (state_of t) → Same ending u → Open u → SaidAfter r t
    said t u e g w o =
        let a : avi_sent t ≡ in_use packets avi ending = g.avi ∙ ap (in_use packets avi) e ∙ w.avi in
        let b : audio_sent t ≡ in_use packets audio ending = g.audio ∙ ap (in_use packets audio) e ∙ w.audio in
        let c : coefficients (state_of t) ≡ r.matrix.coefficients = ap coefficients e ∙ w.matrix ∙ new_matrix in
        let m : mode_in_use (state_of t) ≡ r.matrix.mode = ap mode_in_use e ∙ same_mode ending u w.registers ∙ new_mode in
        record {
          opened = said_open t g (subst Open (sym e) o);
          head_avi = rw a head_avi;
          head_audio = rw b head_audio;
          avi = ap (drop 2) a ∙ new_avi;
          audio = ap (drop 2) b ∙ new_audio;
          matrix = λ out h. g.matrix (get_or t.mark 0 0) refl out h ∙ rw (c, m);
        }

    -- every finished run ends as that one
    said_after : (es : List Event) → FinishedRun own es → SaidAfter r (entered es l)
    said_after es f =
        said (entered es l) (run es start) (entered_run es l z) (end_faces l z es (one_hold es f.runs))
        (d.again [] tt (waited own) es d.waits f) (d.runs es f.runs).unfinished.opened

    -- and so does every run with one Vsync more
    said_late : (es : List Event) → writes_of es ≡ own → SaidAfter r (turn_of (entered es l)).slices
    said_late es e =
        let q = views.entered_vsync (entered es l) (sized_entered es l z) in
        let s : state_of (entered es l) ≡ run es start = entered_run es l z in
        let o : Single (run es start) = subst (λ (fs : List Event). Single (run fs start)) (take-length es) (one_hold es e (length es)) in
        let a : After (vsync_of (run es start)) = (d.runs es e).unfinished.late in
        said (turn_of (entered es l)).slices (vsync_of (run es start)) (q.state ∙ ap vsync_of s) (q.faces (subst Single (sym s) o))
        (after_same ending (vsync_of (run es start)) ended a ((turned (run es start)).image ∙ (d.runs es e).registers ∙ sym with_vsync.registers))
        a.opened

    said_opened : (es : List Event) → writes_of es ≡ own → mute_said (entered es l) ≡ record { refusal = 0; mute = 2 }
    said_opened es e = says_open l z es (one_hold es e) (d.runs es e).unfinished.opened

    pub followed : Followed r own l
    followed = record { entering = enters_own; ended = said_after; opened = said_opened; late = said_late }

-- ---- any cuts, and any run of the list that is planned there

pub slices_run : (input : List ℕ) (l : Lent) → LentSized l → (d : Demand3 (list_of input) (asked input) (state_of l)) → (cs : List Cut)
    → PlannedAgain (list_of input) cs (state_of l)
    → ((u : Chip) → length u.image ≡ 256 → ready u.image ≡ true → Demand3 (list_of input) (asked input) u)
    → (es : List Event) → writes_of es ≡ list_of input (cuts cs (state_of l)).image → OverSlices es (entered_cuts cs l) (cuts cs (state_of l))
slices_run input l z d cs p always es e =
    let u : Chip = cuts cs (state_of l) in
    let t : Lent = entered_cuts cs l in
    let q : state_of t ≡ u = entered_cuts_lem cs l z in
    let here : Demand3 (list_of input) (asked input) u = always u (d.sized cs p) (d.ready cs p) in
    let single : (k : ℕ) → Single (cut es u k) =
    λ k. neat_two (holds_of packets (cut es u k).image) (here.ready (record { events = es; place = k } ∷ []) (e, tt)) in
    let taken : (k : ℕ) → k < length es → (happens (event es k) (cut es u k)).refusal ≡ 0 = (here.runs es e).careful.taken in
    subst (OverSlices es t) q
    (over_slices t (sized_cuts cs l z) es (λ k. subst (λ (c : Chip). Single (cut es c k)) (sym q) (single k))
    (λ k h. subst (λ (c : Chip). (happens (event es k) (cut es c k)).refusal ≡ 0) (sym q) (taken k h)))
