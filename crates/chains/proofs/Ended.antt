-- Where a chain with its last link finished ends: the last request's, and nothing else but the free bits of the beginning. Assumes nothing.
use mathlib.Core.Path.{◌≡◌, sym, ap, subst, ◌∙◌}
use mathlib.Core.List.{List, [], ◌∷◌, ◌++◌, map}
use Prim.Native.Nat.{ℕ}
use lib.ListN.{length}
use lib.Seq.{take-length}
use Rattle.request.specs.declared.Request.{Request}
use Rattle.request.specs.Read.{read_of, ncts_of}
use Rattle.chip.specs.declared.Chip.{Chip}
use Rattle.chip.specs.Machine.{Write}
use Rattle.views.specs.Entry.{Lent}
use Rattle.views.specs.Sized.{LentSized}
use Rattle.views.specs.Theorems.{Entered, EnteredVsync}
use Rattle.plan.specs.Plan.{plan_of}
use Rattle.decode.specs.Ends.{Ends}
use Rattle.cut.specs.Run.{Event, run, writes_of, all_in_use, standing}
use Rattle.cut.specs.Vsync.{FinishedRun}
use Rattle.promises.specs.Finished as field
use Rattle.promises.specs.Rules.{asked, Demand2}
use Rattle.promises.specs.LentBytes.{pairs_left, entered_cuts}
use Rattle.promises.specs.Said.{Said}
use Rattle.plan.specs.Another.{AnyOther}
use Rattle.chains.specs.Chain.{Hand, plugin, vendor, Accepted, pairs_for, Link, Chain, whole_as}
use Rattle.chains.specs.Chain as chain
use Rattle.chains.specs.Theorems.{Kept, Last, Ended, EndedList}
use Rattle.chains.specs.Below.{Below}
use Rattle.chains.proofs.Runs.{Ready, Near, near_self}
use Rattle.chains.proofs.Whole.{planned_ready, pairs, stands_whole_lem, done, its_registers, ended, whole_kept}
use Rattle.chains.proofs.Vetted.{link_ready, list_after}
use Rattle.chains.proofs.Points.{grown, goes_on_lem, near_chain, start_ready, near_left, same_end, over_slices}

-- a last link, run to its end, leaves the bits that no list moves
module _ (b : Below) (ls : List Link) (s : Chip) (c : Chain ls s) (h : Hand) (es : List Event) (a : Accepted h (chain.left ls s))
    (e : writes_of es ≡ pairs_for h (chain.left ls s)) where
  abbrev l : Link
  l = record { hand = h; run = record { events = es; place = length es } }

  last_kept : Kept s (run es (chain.left ls s))
  last_kept =
      let k : Chain (ls ++ l ∷ []) s = grown h l.run ls s c a e in
      let r : Ready s.image = start_ready b ls s c (link_ready b h (chain.left ls s) a) in
      subst (Kept s) (goes_on_lem h l.run ls s ∙ ap (λ (fs : List Event). run fs (chain.left ls s)) (take-length es))
      (near_chain b s (ls ++ l ∷ []) s k (near_self s r)).kept

-- ---- a plug-in's request as the last link

module _ (b : Below) (enter : (l : Lent) → LentSized l → (address value : ℕ) → Entered l address value)
    (turn : (l : Lent) → LentSized l → EnteredVsync l) (rules : (input buffer : List ℕ) (s : Chip) → Demand2 input buffer s) (said : Said)
    (another : AnyOther)
    (ls : List Link) (s : Chip) (c : Chain ls s) (input room : List ℕ) (es : List Event) (l : Last input room es (chain.left ls s)) where
  abbrev t : Chip
  t = chain.left ls s

  abbrev r : Request
  r = (read_of input).request

  abbrev e : Chip
  e = run es t

  there : Ready t.image
  there = planned_ready b.every input room t l.accepted

  here : Ready s.image
  here = start_ready b ls s c there

  -- the request is accepted at the beginning too
  first : (plan_of input s.image room).refusal ≡ 0
  first = (another input room s.image here.whole here.holds).accepted t.image l.accepted

  all_new : all_in_use e ≡ whole_as s.image r
  all_new =
      let a = ended b.every input room es t l in
      (λ j. record { avi = a.avi j; audio = a.audio j; matrix = a.matrix j }) ∙ ap standing (its_registers b.every input room es t l)
      ∙ stands_whole_lem b.every input room t l.accepted ∙ whole_kept r s t (near_left b ls s c there).kept

  pub last_ended : Ended input room es ls s
  last_ended = record {
    fields = subst (field.FinishedFields r (ncts_of input)) (sym (its_registers b.every input room es t l)) ((rules input room t).fields l.accepted);
    groups = all_new;
    kept = last_kept b ls s c (plugin input room) es l.accepted l.finished.runs;
    opened = (ended b.every input room es t l).opened;
    accepted = first;
    same = λ fs g. same_end b ls s c here (asked input) fs es
        (subst (λ (ws : List Write). FinishedRun ws fs) (pairs b.every input room s first) g) (done b.every input room es t l);
    idle = (b.runs es t).idle there.whole (pairs_left input t.image room) l.finished;
    said = λ lent z at.
        let o = over_slices enter turn ls s lent z at in
        (said input room t l.accepted (entered_cuts (map (λ l. l.run) ls) lent) o.0 o.1).ended es l.finished;
  }

-- ---- a vendor's list as the last link

pub list_ended : Below → (ls : List Link) (s : Chip) → Chain ls s → (list : List ℕ) (ending : Request) (es : List Event)
    → Accepted (vendor list ending) (chain.left ls s) → writes_of es ≡ pairs_for (vendor list ending) (chain.left ls s) → EndedList ending es ls s
list_ended b ls s c list ending es a e =
    let t : Chip = chain.left ls s in
    let d = list_after b list ending t a.0 a.1 (record { events = es; place = 0 }) e in
    let n : Near s t = near_left b ls s c (link_ready b (vendor list ending) t a) in
    record {
      registers = subst (Ends ending) (sym ((b.vendors.passing list t a.0).1.any_end es e).0) a.1;
      groups = d.1 ∙ whole_kept ending s t n.kept;
      kept = last_kept b ls s c (vendor list ending) es a e;
      opened = d.0;
    }
