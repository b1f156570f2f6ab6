-- Demands 2 and 3, tied to the planning entry. Assumes nothing.
use mathlib.Core.Path.{◌≡◌, refl, sym, ap, ap₂, subst, ◌∙◌}
use mathlib.Core.Bool.{true}
use mathlib.Core.List.{List, [], ◌∷◌}
use Prim.Native.Nat.{ℕ, ◌+◌, ◌≤◌}
use lib.Dec.{eqb}
use lib.ListN.{length, get_or, drop, set, replicate}
use lib.Seq.{take-length}
use borrow.Author.Tests.{eqb-true, eq-eqb, le-ltb}
use Rattle.matrix.specs.Matrix.{Bytes}
use Rattle.chip.specs.declared.Chip.{Chip}
use Rattle.chip.specs.Machine.{Write, avi, audio, packets, in_use, coefficients, mode_in_use}
use Rattle.views.specs.Entry.{state_of}
use Rattle.clock.specs.Numbered.{Pair}
use Rattle.request.specs.declared.Request.{Request}
use Rattle.request.specs.Numbered.{Checked}
use Rattle.request.specs.Read.{read_of, pair_for}
use Rattle.request.specs.Bytes.{as_bytes, new_video}
use Rattle.request.specs.ThereAndBack.{request_in_edition}
use Rattle.request.proofs.Back.{there_and_back}
use Rattle.request.proofs.Said.{new_video_lem}
use Rattle.request.proofs.Alone.{accepted_under_d}
use Rattle.request.specs.Fits.{Fits}
use Rattle.request.proofs.Fits as request
use Rattle.plan.specs.Numbered.{Planned}
use Rattle.writes.specs.List.{finished_image, ready}
use Rattle.writes.proofs.Image.{image_length_lem, image_at}
use Rattle.plan.specs.Plan.{plan_of}
use Rattle.plan.proofs.Fine.{Fine, fine, accepts, leaves}
use Rattle.plan.proofs.Ordered.{refusals}
use Rattle.cut.specs.Run.{Event, run, cut, writes_of}
use Rattle.cut.specs.Vsync.{waited}
use Rattle.cut.specs.Demand.{to_its_end, Cut, cuts, PlannedAgain, After, Demand3}
use Rattle.cut.proofs.DemandOfGoodLists.{waited_writes}
use Rattle.cut.proofs.DemandOfWriteList.{holds}
use Rattle.cut.proofs.ShorterWithin.{made_right_lem}
use Rattle.writes.specs.Fewer.{differing}
use Rattle.writes.proofs.InOrder.{in_order}
use Rattle.writes.proofs.Fewer.{nine_of_three, fewer, none_differ}
use Rattle.writes.proofs.Carries.{entries}
use Rattle.decode.specs.Ends.{Acceptable, Stands}
use Rattle.decode.specs.ReadBack.{Ran}
use Rattle.decode.proofs.Groups.{avi_in_lem, audio_in_lem, matrix_in_lem}
use Rattle.decode.proofs.Unasked.{same_pair}
use Rattle.decode.proofs.Answers.{finished_again, read_back_lem}
use Rattle.promises.specs.Rules.{asked, Listed, Demand2}
use Rattle.promises.specs.OnSomeImage.{AcceptedSomewhere, OnSomeImage}
use Rattle.frames.specs.Frames.{avi_frame}
use Rattle.frames.specs.Editions.{ByE, read_by_d, read_by_e, avi_packet}
use Rattle.frames.proofs.Readers.{editions}
use Rattle.promises.proofs.Only.{same_but_two, shown_alike}
use Rattle.promises.proofs.Ended.{avi_head, audio_head, enable_in, mode_in_lem}
use Rattle.promises.proofs.Filled.{filled, paired, never_three_lem}
use Rattle.promises.specs.LentBytes.{entered_cuts, OverSlices}
use Rattle.promises.proofs.LentBytes.{left, slices_run, followed}
use Rattle.promises.specs.AnyCut.{list_of, Headed, EveryCut}
use Rattle.promises.specs.Said.{Followed, Said}
use Rattle.promises.specs.MadeRight.{MadeRightAgain}
use Rattle.promises.specs.Readers.{Readers}

pub listed : (input image buffer : List ℕ) → Fine input image buffer → Listed input image buffer
listed input image buffer f =
    let count = ap (λ (p : Planned). p.count) (accepts input image buffer f) in
    let list = leaves input image buffer f in
    record { count = count; list = list; pairs = left input image buffer count list }

-- the count, by the registers that differ
reported : (input image buffer : List ℕ) → Fine input image buffer
    → (plan_of input image buffer).count ≡ differing image (finished_image (asked input) image) + 9
reported input image buffer f =
    (listed input image buffer f).count ∙ (fewer (asked input) image).count
    ∙ ap (λ (n : ℕ). differing image (finished_image (asked input) image) + n) (nine_of_three (asked input) image)

pub accepted : (input image buffer : List ℕ) → Fine input image buffer → (plan_of input image buffer).refusal ≡ 0
accepted input image buffer f = ap (λ (p : Planned). p.refusal) (accepts input image buffer f)

-- planned again: what is asked of the registers and of the buffer is all that moves
pub again_fine : (input image buffer : List ℕ) → Fine input image buffer → (after room : List ℕ) → length after ≡ 256 → ready after ≡ true
    → 256 ≤ length room → Fine input after room
again_fine input image buffer f after room whole clear long =
    record { read = f.read; whole = whole; clear = clear; paired = f.paired; long = le-ltb (length room) 256 long }

-- the end of a run
record AtEnd (input : List ℕ) (s : Chip) : Type 0 where
  ended : After (to_its_end (list_of input) s)
  sized : length (to_its_end (list_of input) s).image ≡ 256
  stands : Stands (read_of input).request (to_its_end (list_of input) s).image

at_end_lem : (input buffer : List ℕ) (s : Chip) → Fine input s.image buffer → AtEnd input s
at_end_lem input buffer s f =
    let d : Demand3 (list_of input) (asked input) s = holds (asked input) s f.whole f.clear in
    let ws : List Write = list_of input s.image in
    let e : Chip = to_its_end (list_of input) s in
    let run_end = d.runs (waited ws) (waited_writes ws) in
    record {
      ended = run_end.ended d.waits;
      sized = ap length run_end.registers ∙ image_length_lem (asked input) s.image;
      stands =
          λ a h. finished_again (asked input) s.image e.image a
          (ap (λ (l : List ℕ). get_or l a 0) run_end.registers ∙ image_at (asked input) s.image a h);
    }

-- the AVI packet then in use
new_avi_lem : (input buffer : List ℕ) (s : Chip) → Fine input s.image buffer
    → drop 2 (in_use packets avi (to_its_end (list_of input) s)) ≡ drop 3 (avi_frame (read_of input).request.video)
new_avi_lem input buffer s f =
    let e = at_end_lem input buffer s f in
    ap (drop 2) e.ended.avi ∙ avi_in_lem (read_of input).request _ e.sized (request.fits input f.read) e.stands

shown : (input buffer : List ℕ) (s : Chip) → Fine input s.image buffer
    → read_by_e (in_use packets avi (to_its_end (list_of input) s)) ≡ read_by_e (avi_packet (read_of input).request.video)
shown input buffer s f = shown_alike (in_use packets avi (to_its_end (list_of input) s)) (read_of input).request.video (new_avi_lem input buffer s f)

-- the same request under D is accepted, and says the same but for its edition byte
module _ (input image buffer : List ℕ) (f : Fine input image buffer) (b : Bytes input) where
  abbrev under : List ℕ
  under = new_video (λ body. set body 6 0x00) input

  read_under : read_of under ≡ record { refusal = 0; request = request_in_edition 0x00 (read_of input).request }
  unfolding as_bytes
  read_under =
      let r : Request = (read_of input).request in
      let g : Fits r = request.fits input f.read in
      let back : as_bytes r ≡ input = there_and_back.back input b f.read in
      ap (λ (l : List ℕ). read_of (new_video (λ body. set body 6 0x00) l)) (sym back) ∙ ap read_of (new_video_lem r g.matrix (λ body. set body 6 0x00))
      ∙ accepted_under_d r g.matrix g.video (ap (λ (l : List ℕ). (read_of l).refusal) back ∙ f.read)

  fine_under : Fine under image buffer
  fine_under =
      record {
        read = ap (λ (c : Checked). c.refusal) read_under;
        whole = f.whole;
        clear = f.clear;
        paired =
            ap (λ (c : Checked). eqb (pair_for c.request).refusal 0) read_under
            ∙ ap (λ (p : Pair). eqb p.refusal 0) (same_pair (read_of input).request 0x00) ∙ f.paired;
        long = f.long;
      }

pub any_cut : EveryCut
any_cut input buffer s z =
    let f = fine input s.image buffer z in
    let d : Demand3 (list_of input) (asked input) s = holds (asked input) s f.whole f.clear in
    let q : Request = (read_of input).request in
    let e : Chip = to_its_end (list_of input) s in
    let end = at_end_lem input buffer s f in
    let g : Fits q = request.fits input f.read in
    record {
      listed = listed input s.image buffer f;
      demand = d;
      again = λ cs room p long.
          let image : List ℕ = (cuts cs s).image in
          let y : Fine input image room = again_fine input s.image buffer f image room (d.sized cs p) (d.ready cs p) long in
          (accepted input image room y, listed input image room y);
      head_avi = rw end.ended.avi (avi_head q e.image g end.stands);
      head_audio = rw end.ended.audio (audio_head q e.image g end.stands);
      new_avi = new_avi_lem input buffer s f;
      new_audio = ap (drop 2) end.ended.audio ∙ audio_in_lem q e.image end.sized g end.stands;
      new_matrix = end.ended.matrix ∙ matrix_in_lem q e.image end.sized g end.stands;
      new_enable = enable_in q e.image g end.stands;
      new_mode = mode_in_lem q e.image g end.stands;
      slices = λ l sized at.
          subst (λ (c : Chip). (cs : List Cut) → PlannedAgain (list_of input) cs c → (es : List Event)
          → writes_of es ≡ list_of input (cuts cs c).image → OverSlices es (entered_cuts cs l) (cuts cs c)) at
          (λ cs p es w. slices_run input l sized (subst (Demand3 (list_of input) (asked input)) (sym at) d) cs p
          (λ u whole clear. holds (asked input) u whole clear) es w);
    }

-- the same by the calls
pub said : Said
said input buffer s z l sized at =
    let a = any_cut input buffer s z in
    let e : Chip = to_its_end (list_of input) s in
    let x : to_its_end (list_of input) (state_of l) ≡ e = ap (to_its_end (list_of input)) at in
    let i : l.image ≡ s.image = ap (λ (c : Chip). c.image) at in
    subst (λ (ps : List Write). Followed (read_of input).request ps l) (ap (list_of input) i ∙ sym a.listed.pairs)
    (followed input l sized (subst (Demand3 (list_of input) (asked input)) (sym at) a.demand) (ap (λ (c : Chip). drop 2 (in_use packets avi c)) x ∙ a.new_avi)
    (ap (λ (c : Chip). drop 2 (in_use packets audio c)) x ∙ a.new_audio) (subst (λ (c : Chip). Headed 0x02 0x0D (in_use packets avi c)) (sym x) a.head_avi)
    (subst (λ (c : Chip). Headed 0x01 0x0A (in_use packets audio c)) (sym x) a.head_audio) (ap coefficients x ∙ a.new_matrix) (ap mode_in_use x ∙ a.new_mode))

-- request 09
pub always_right : MadeRightAgain
always_right input buffer s z =
    let f = fine input s.image buffer z in
    let d : Demand3 (list_of input) (asked input) s = holds (asked input) s f.whole f.clear in
    let ws : List Write = list_of input s.image in
    let e : Chip = to_its_end (list_of input) s in
    let end = at_end_lem input buffer s f in
    record {
      made_right = made_right_lem (asked input) s f.whole f.clear;
      unchanged = λ room long.
          let es : List Event = waited ws in
          let last : cut es s (length es) ≡ e = ap (λ (l : List Event). run l s) (take-length es) in
          let clear : ready e.image ≡ true =
          subst (λ (t : Chip). ready t.image ≡ true) last (d.ready (record { events = es; place = length es } ∷ []) (waited_writes ws, tt)) in
          let y : Fine input e.image room = again_fine input s.image buffer f e.image room end.sized clear long in
          reported input e.image room y ∙ ap (λ (n : ℕ). n + 9) (none_differ (asked input) e.image end.stands);
    }

-- request 11
pub readers : Readers
readers input buffer s z =
    let f = fine input s.image buffer z in
    let q : Request = (read_of input).request in
    let g : Fits q = request.fits input f.read in
    record {
      shown_to_d = λ b.
          let u : Fine (under input s.image buffer f b) s.image buffer = fine_under input s.image buffer f b in (
            accepted _ s.image buffer u,
            ap (λ (x : ByE). x.known) (shown input buffer s f)
                ∙ (editions q.video g.video).same
                ∙ ap (λ (c : Checked). read_by_d (avi_packet c.request.video)) (sym (read_under input s.image buffer f b))
                ∙ sym (ap (λ (x : ByE). x.known) (shown _ buffer s u)),
          );
      shown_to_e =
          let x = shown input buffer s f ∙ (editions q.video g.video).asked in
          (ap (λ (y : ByE). y.yq) x, ap (λ (y : ByE). y.cn) x);
    }

pub rules : (input buffer : List ℕ) (s : Chip) → Demand2 input buffer s
rules input buffer s = record {
  accepted = λ b. (refusals input b s.image buffer).given.none;
  listed = λ z. listed input s.image buffer (fits z);
  order = in_order (asked input) s.image;
  entries = entries (asked input) s.image;
  fewer = fewer (asked input) s.image;
  reported = λ z. reported input s.image buffer (fits z);
  finished = λ z es e. ((any_cut input buffer s z).demand.runs es e).registers;
  fields = λ z. let f = fits z in
      filled input s.image f.read _ (image_length_lem (asked input) s.image)
      (image_at (asked input) s.image);
  pair = paired input;
  never_three = λ z. let f = fits z in never_three_lem input s.image f.read;
  read_back = λ b z room h. (read_back_lem input s.image (finished_image (asked input) s.image)).answered (ran input b z) room h;
  only = λ b z other c y e.
      same_but_two input other (finished_image (asked input) s.image) s.image (ran input b z)
      (subst (Ran other s.image) e (ran other c y));
}
  where
    fits : (plan_of input s.image buffer).refusal ≡ 0 → Fine input s.image buffer
    fits = fine input s.image buffer

    ran : (l : List ℕ) → Bytes l → (plan_of l s.image buffer).refusal ≡ 0 → Ran l s.image (finished_image (asked l) s.image)
    ran l b z =
        let f = fine l s.image buffer z in
        record {
          bytes = b;
          read = f.read;
          paired = eqb-true _ _ f.paired;
          sized = image_length_lem (asked l) s.image;
          registers = image_at (asked l) s.image;
        }

-- ---- accepted on some image: on zeros

pub on_some_image : (r : Request) → OnSomeImage r
on_some_image r = (there, back)
  where
    there : Acceptable r → AcceptedSomewhere r
    there a =
        let says : (read_of (as_bytes r)).request ≡ r = ap (λ (c : Checked). c.request) a.read in
        let z : List ℕ = replicate 256 0 in
        record {
          image = z;
          buffer = z;
          says = says;
          accepted = accepted (as_bytes r) z z (record {
            read = ap (λ (c : Checked). c.refusal) a.read;
            whole = refl;
            clear = refl;
            paired = eq-eqb _ 0 (ap (λ (q : Request). (pair_for q).refusal) says ∙ a.paired);
            long = refl;
          });
        }

    the : ℕ → Request → Checked
    the n q = record { refusal = n; request = q }

    back : AcceptedSomewhere r → Acceptable r
    back b =
        let f = fine (as_bytes r) b.image b.buffer b.accepted in
        record {
          read = ap₂ the f.read b.says;
          paired = ap (λ (q : Request). (pair_for q).refusal) (sym b.says) ∙ eqb-true _ _ f.paired;
        }
