-- Demand 1: zeros beside each refusal; the rest is cited. Assumes nothing.
use mathlib.Core.Path.{◌≡◌, refl, ap, ◌∙◌}
use mathlib.Core.Logic.{◌≢◌}
use mathlib.Core.Bool.{Bool, true, false, cond}
use mathlib.Core.List.{List}
use Prim.Native.Nat.{ℕ}
use lib.Dec.{eqb}
use Rattle.clock.specs.Numbered.{Pair}
use Rattle.clock.specs.Answers.{no_pair}
use Rattle.clock.proofs.Rows as clocks
use Rattle.matrix.proofs.Previewed as preview
use Rattle.meter.proofs.Rule as meter
use Rattle.sound.specs.declared.Sound.{Sound}
use Rattle.sound.specs.declared.Sound.TheVariants.{Off, On}
use Rattle.request.specs.Read.{read_of, ncts_of, pair_in, pair_for}
use Rattle.chip.specs.Write.{lent_as}
use Rattle.views.specs.Entry.{marked}
use Rattle.views.specs.View.{view_refusal, sent_part, no_part}
use Rattle.views.specs.Numbered.{Part}
use Rattle.views.proofs.Lent as entry
use Rattle.views.proofs.Seen as view
use Rattle.views.proofs.Used as converter
use Rattle.vendor.proofs.Judged.{vetted}
use Rattle.station.specs.declared.CountOut.{CountOut}
use Rattle.station.specs.declared.PairOut.{PairOut}
use Rattle.station.specs.declared.PixelOut.{PixelOut}
use Rattle.station.specs.declared.machine.PartOut.{PartOut}
use Rattle.station.specs.declared.machine.StateOut.{StateOut}
use Rattle.station.specs.declared.machine.VerdictOut.{VerdictOut}
use Rattle.plan.specs.Plan.{plan_of}
use Rattle.plan.proofs.Ordered as planning
use Rattle.decode.proofs.Answers as decoding
use Rattle.promises.specs.AnyInput.{Demand1}
use Rattle.promises.specs.OtherCalls.{OtherCalls}
use Rattle.promises.proofs.Piped.{pipe_refusals}

-- ---- zeros beside a refusal

abbrev Zeroed : Pair → Type 0
Zeroed p = p.refusal ≢ 0 → (p.n ≡ 0) × (p.cts ≡ 0)

one_of : (b : Bool) {p q : Pair} → Zeroed p → Zeroed q → Zeroed (cond b p q)
one_of true y z = y
one_of false y z = z

refusal_zeroed : (n : ℕ) → Zeroed (no_pair n)
refusal_zeroed n h = (refl, refl)

ncts_zeroed : (request : List ℕ) → Zeroed (ncts_of request)
unfolding ncts_of pair_for
ncts_zeroed request = one_of (eqb (read_of request).refusal 0) (of (read_of request).request.sound) (refusal_zeroed (read_of request).refusal)
  where
    of : (s : Sound) → Zeroed (pair_in (read_of request).request s)
    of Off = λ h. absurd (h refl)
    of (On rate channels coherent) = (clocks.refusals).no_pair _ rate coherent

pub any_input : Demand1
any_input = record {
  planning = λ request image buffer b. planning.refusals request b image buffer;
  decoding = decoding.refusals;
  station_plan = λ request image writes left out b p h.
      let r = planning.refusals request b image writes in
      let n : (plan_of request image writes).refusal ≢ 0 = λ z. h (ap (λ (o : CountOut). o.refusal) p.0 ∙ z) in
      (ap (λ (o : CountOut). o.count) p.0 ∙ r.count n, p.1 ∙ r.kept n);
  station_decode = λ image request left out p h.
      let u = (decoding.refusals image request).unchanged (λ z. h (ap (λ (o : CountOut). o.refusal) p.0 ∙ z)) in
      (ap (λ (o : CountOut). o.count) p.0 ∙ u.0, p.1 ∙ u.1);
  station_ncts = λ request out p h.
      let u = ncts_zeroed request (λ z. h (ap (λ (o : PairOut). o.refusal) p ∙ z)) in
      (ap (λ (o : PairOut). o.n) p ∙ u.0, ap (λ (o : PairOut). o.cts) p ∙ u.1);
  station_write = λ l left address value out p h. p.1 ∙ (entry.refusals l address value).kept (λ z. h (p.0 ∙ z));
  station_vsync = λ l left out p h. p.1 ∙ (entry.turn_refusals l).kept (λ z. h (p.0 ∙ z));
  station_sent = λ image packet which out p h.
      let r = view.refusals image packet in
      let e : sent_part image packet which ≡ no_part (view_refusal image packet which) =
      (r.empty which (λ z. h (ap (λ (o : PartOut). o.refusal) p ∙ r.part which ∙ z))).1 in (
        ap (λ (o : PartOut). o.held) p ∙ ap (λ (q : Part). q.held) e,
        ap (λ (o : PartOut). o.start) p ∙ ap (λ (q : Part). q.start) e,
        ap (λ (o : PartOut). o.len) p ∙ ap (λ (q : Part). q.len) e,
      );
  station_mute = λ image packet out p h.
      ap (λ (o : StateOut). o.mute) p ∙ (view.refusals image packet).zero (λ z. h (ap (λ (o : StateOut). o.refusal) p ∙ z));
  station_matrix = λ image coefficients matrix left mark out p h.
      let u = (converter.refusals image coefficients mark matrix).kept (λ z. h (ap (λ (o : CountOut). o.refusal) p.0 ∙ z)) in
      (ap (λ (o : CountOut). o.count) p.0 ∙ u.0, p.1 ∙ u.1);
}

pub other_calls : OtherCalls
other_calls = record {
  station_preview = λ matrix a b c out d p h.
      let u = (preview.refusals matrix d a b c).zeros (λ z. h (ap (λ (o : PixelOut). o.refusal) p ∙ z)) in
      (ap (λ (o : PixelOut). o.a) p ∙ u.0, ap (λ (o : PixelOut). o.b) p ∙ u.1, ap (λ (o : PixelOut). o.c) p ∙ u.2);
  station_meter = λ numbers matrix left out p h.
      let u = (meter.rule numbers matrix).nothing (λ z. h (ap (λ (o : CountOut). o.refusal) p.0 ∙ z)) in
      (ap (λ (o : CountOut). o.count) p.0 ∙ u.0, p.1 ∙ u.1);
  pipe = pipe_refusals;
  station_vet = λ image packet coefficients mark list out p h.
      ap (λ (o : VerdictOut). o.place) p ∙ (vetted (lent_as image packet coefficients (marked mark)) list).zero (λ z. h (ap (λ (o : VerdictOut). o.refusal) p ∙ z));
}
