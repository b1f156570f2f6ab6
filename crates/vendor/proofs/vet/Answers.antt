-- `vendor::vet` meets its contract. Assumes nothing.
use mathlib.Core.Path.{◌≡◌, refl, sym, ap, ◌∙◌}
use mathlib.Core.Bool.{Bool, true, false, not, ◌&&◌, ◌||◌}
use mathlib.Core.List.{List}
use Prim.Native.Nat.{ℕ, ◌/◌}
use lib.Dec.{eqb, ltb}
use lib.ListN.{length}
use borrow.Author.Tests.{not-false, ne_eqb, lt-ltb, le-ltb}
use Rattle.chip.specs.declared.Chip.{Chip}
use Rattle.chip.specs.Write.{lent_as}
use Rattle.views.specs.Entry.{marked, is_sized}
use Rattle.views.proofs.Lent.{sized, gathered_whole}
use Rattle.writes.specs.List.{pairs_of, ready}
use Rattle.writes.proofs.Pairs.{length_pairs}
use Rattle.vendor.specs.Numbered.{writes_in}
use Rattle.vendor.specs.Found.{wrong_length, vet_of}
use Rattle.vendor.proofs.Loops.{pairs_code}
use Rattle.vendor.proofs.Verdicts.{wrong_size, holds_up_lem, wrong_length_lem, odd}
use Rattle.vendor.proofs.vet.Goals as goal
use Rattle.vendor.proofs.vet.Goals.{Start, Else-not-is_ready, After-as_chunks, After-gathered-start, then-image-ne256-via-then-image-ne256, then-image-ne256-via-else-image-ne256+then-packet-ne32, then-image-ne256-via-else-image-ne256+else-packet-ne32+then-coefficients-ne24, then-not-is_empty-via-then-not-is_empty, then-not-is_empty-via-else-not-is_empty+then-pairs-gt-MOST_PAIRS}

abbrev at : (c : Start) → Chip
at c = let a = c.args in lent_as a.image.now a.packet.now a.coefficients.now (marked a.mark)

-- the tests of the lengths and of the holds
right_size : (image packet coefficients : List ℕ) (waiting : Bool) → length image ≡ 256 → length packet ≡ 32 → length coefficients ≡ 24
    → not (is_sized (lent_as image packet coefficients waiting)) ≡ false
right_size image packet coefficients waiting a b c = rw (a, b, c) refl

is_fit : (c : Else-not-is_ready) → not (ready c.args.image.now) ≡ false
is_fit c = ap not (sym c.is_ready.ensures ∙ c.if-not-is_ready.false)

-- the list's length, and its pairs
module _ (c : After-as_chunks) where
  measured : wrong_length c.args.list.now ≡ (not (eqb (length c.as_chunks.result.1.now) 0) || ltb 512 (length c.as_chunks.result.0.now))
  measured = let e = c.as_chunks.ensures in rw (length_pairs c.args.list.now, e.back_len, e.front_len, odd (length c.args.list.now))

  chunked : writes_in c.as_chunks.result.0.now ≡ pairs_of c.args.list.now
  chunked = ap writes_in c.as_chunks.ensures.front ∙ pairs_code (length c.args.list.now / 2) c.args.list.now refl

-- the state
begun : (c : After-gathered-start) → let a = c.args in c.gathered-start.result ≡ lent_as a.image.now a.packet.now a.coefficients.now (marked a.mark)
begun c = gathered_whole _ c.gathered-start.result (sized _ (right_size _ _ _ (marked c.args.mark) c.if-image-ne256.false c.if-packet-ne32.false c.if-coefficients-ne24.false)) c.gathered-start.ensures

pub returns-then-image-ne256-clause-vets : goal.returns-then-image-ne256-clause-vets
returns-then-image-ne256-clause-vets c =
    let a = c.args in
    let s = at (goal.at.returns-then-image-ne256-clause-vets c).Start in
    let other : not (is_sized s) ≡ true = elim c.then-image-ne256.branch [
      | then-image-ne256-via-then-image-ne256 w ↦
          ap (λ (x : Bool). not (x && (eqb (length a.packet.now) 32 && eqb (length a.coefficients.now) 24))) (ne_eqb _ _ w.if-image-ne256.true)
      | then-image-ne256-via-else-image-ne256+then-packet-ne32 w ↦
          rw w.if-image-ne256.false (ap (λ (x : Bool). not (x && eqb (length a.coefficients.now) 24)) (ne_eqb _ _ w.if-packet-ne32.true))
      | then-image-ne256-via-else-image-ne256+else-packet-ne32+then-coefficients-ne24 w ↦
          rw (w.if-image-ne256.false, w.if-packet-ne32.false) (ap not (ne_eqb _ _ w.if-coefficients-ne24.true))
    ] in
    rw c.into.ensures (wrong_size s a.list.now other)

pub returns-then-not-is_ready-clause-vets : goal.returns-then-not-is_ready-clause-vets
returns-then-not-is_ready-clause-vets c = let s = at (goal.at.returns-then-not-is_ready-clause-vets c).Start in
    rw c.into-then-not-is_ready.ensures (holds_up_lem s c.args.list.now (right_size _ _ _ (marked c.args.mark) c.if-image-ne256.false c.if-packet-ne32.false c.if-coefficients-ne24.false)
    (ap not (sym c.is_ready.ensures ∙ c.if-not-is_ready.true)))

pub returns-then-not-is_empty-clause-vets : goal.returns-then-not-is_empty-clause-vets
returns-then-not-is_empty-clause-vets c =
    let s = at (goal.at.returns-then-not-is_empty-clause-vets c).Start in
    let k = (goal.at.returns-then-not-is_empty-clause-vets c).After-as_chunks in
    let other : wrong_length c.args.list.now ≡ true = elim c.then-not-is_empty.branch [
      | then-not-is_empty-via-then-not-is_empty w ↦
          measured k ∙ ap (λ (b : Bool). not b || ltb 512 (length c.as_chunks.result.0.now)) (sym c.is_empty.ensures ∙ w.if-not-is_empty.true)
      | then-not-is_empty-via-else-not-is_empty+then-pairs-gt-MOST_PAIRS w ↦
          measured k ∙ ap (λ (b : Bool). not b || ltb 512 (length c.as_chunks.result.0.now)) (sym c.is_empty.ensures ∙ w.if-not-is_empty.false)
          ∙ lt-ltb _ _ w.if-pairs-gt-MOST_PAIRS.true
    ] in
    rw c.into-then-not-is_empty.ensures (wrong_length_lem s c.args.list.now (right_size _ _ _ (marked c.args.mark) c.if-image-ne256.false c.if-packet-ne32.false c.if-coefficients-ne24.false)
    (is_fit (goal.at.returns-then-not-is_empty-clause-vets c).Else-not-is_ready) other)

pub verdict_on-requires : goal.verdict_on-requires
verdict_on-requires c = (
  c.if-pairs-gt-MOST_PAIRS.false,
  ap (λ (s : Chip). ready s.image) (begun (goal.at.verdict_on-requires c).After-gathered-start)
      ∙ not-false _ (is_fit (goal.at.verdict_on-requires c).Else-not-is_ready),
)

pub returns-clause-vets : goal.returns-clause-vets
returns-clause-vets c =
    let list = c.args.list.now in
    let b = begun (goal.at.returns-clause-vets c).After-gathered-start in
    let k = (goal.at.returns-clause-vets c).After-as_chunks in
    c.verdict_on.ensures.vets list (sym (chunked k)) (rw b (record {
      sized = right_size _ _ _ (marked c.args.mark) c.if-image-ne256.false c.if-packet-ne32.false c.if-coefficients-ne24.false;
      fit = is_fit (goal.at.returns-clause-vets c).Else-not-is_ready;
      whole = measured k ∙ ap (λ (b : Bool). not b || ltb 512 (length c.as_chunks.result.0.now)) (sym c.is_empty.ensures ∙ c.if-not-is_empty.false)
          ∙ le-ltb _ _ c.if-pairs-gt-MOST_PAIRS.false;
    }))
    ∙ ap (λ (s : Chip). vet_of s list) b
