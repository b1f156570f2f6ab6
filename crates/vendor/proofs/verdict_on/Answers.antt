-- `vendor::verdict_on` meets its contract. Assumes nothing.
use mathlib.Core.Path.{◌≡◌, sym, ap, ◌∙◌}
use mathlib.Core.List.{List}
use Prim.Native.Nat.{ℕ}
use lib.Dec.{ltb}
use lib.ListN.{length}
use borrow.Author.Tests.{lt-ltb, le-ltb}
use borrow.Author.Rules.{rules}
use Rattle.chip.specs.Machine.{Write, packets, holds_of}
use Rattle.cut.proofs.NoneRefused.{neat_two}
use Rattle.writes.specs.List.{pairs_of}
use Rattle.decode.specs.Decode.{some_ends}
use Rattle.vendor.specs.Numbered.{writes_in}
use Rattle.vendor.specs.Vendor.{shortened, end_of}
use Rattle.vendor.specs.Found.{shown, first_fault, place_of}
use Rattle.vendor.proofs.Loops.{length_writes}
use Rattle.vendor.proofs.Faults.{Sound}
use Rattle.vendor.proofs.AllTaken.{front, all_taken}
use Rattle.vendor.proofs.Verdicts.{placed, place_test, end_test, bad_pair_lem, bad_end_lem, passed}
use Rattle.vendor.proofs.verdict_on.Goals as goal
use Rattle.vendor.proofs.verdict_on.Goals.{Start, After-unwrap_or-place}

-- the state that the list finds
sound : (c : Start) → Sound c.args.start.now
sound c = let h : length c.args.start.now.image ≡ 256 = search rules in
    record { whole = h; single = neat_two (holds_of packets c.args.start.now.image) c.requires.1 }

pub invariant_of-run : goal.invariant_of-run
invariant_of-run c =
    let z = sound (goal.at.invariant_of-run c).Start in
    record { whole = z.whole; taken = all_taken c.args.start.now z c.args.list.now _ c.taken.ensures }

-- the end and the place that are found, of the bytes that are these pairs
module _ (c : After-unwrap_or-place) (z : Sound c.args.start.now) (bytes : List ℕ) (e : pairs_of bytes ≡ writes_in c.args.list.now) where
  all : writes_in c.taken.result.now ≡ shortened (writes_in c.args.list.now) c.args.start.now
  all = front c.args.start.now z c.args.list.now _ c.taken.ensures

  end : c.ending-end.result ≡ end_of (shortened (writes_in c.args.list.now) c.args.start.now) c.args.start.now
  end = c.ending-end.ensures ∙ ap (λ (ws : List Write). end_of ws c.args.start.now) all

  place : c.unwrap_or-place.result ≡ place_of (pairs_of bytes) c.args.start.now
  place =
      let s = c.args.start.now in
      placed bytes _ e s _ end _ _ _ c.of.ensures c.of-2.ensures
      (c.unwrap_or-place.ensures ∙ c.first_fault.ensures
      ∙ ap (λ (ws : List Write). first_fault (shown c.of.result) (shown c.of-2.result) ws s) all)

  tested : ltb (place_of (pairs_of bytes) c.args.start.now) (length (pairs_of bytes)) ≡ ltb c.unwrap_or-place.result (length c.args.list.now)
  tested = place_test bytes _ e c.args.start.now _ end _ _ place (length_writes c.args.list.now)

  ended : some_ends (end_of (shortened (pairs_of bytes) c.args.start.now) c.args.start.now).image ≡ some_ends c.ending-end.result.image
  ended = end_test bytes _ e c.args.start.now _ end

pub returns-then-place-list-clause-vets : goal.returns-then-place-list-clause-vets
returns-then-place-list-clause-vets c = λ bytes e u.
    let k = (goal.at.returns-then-place-list-clause-vets c).After-unwrap_or-place in
    let z = sound (goal.at.returns-then-place-list-clause-vets c).Start in
    bad_pair_lem c.args.start.now bytes u _ (place k z bytes e) (tested k z bytes e ∙ lt-ltb _ _ c.if-place-list.true)

pub returns-then-not-decodes-clause-vets : goal.returns-then-not-decodes-clause-vets
returns-then-not-decodes-clause-vets c = λ bytes e u.
    let k = (goal.at.returns-then-not-decodes-clause-vets c).After-unwrap_or-place in
    let z = sound (goal.at.returns-then-not-decodes-clause-vets c).Start in
    rw c.into.ensures (bad_end_lem c.args.start.now bytes u (tested k z bytes e ∙ le-ltb _ _ c.if-place-list.false)
    (ended k z bytes e ∙ sym c.decodes.ensures ∙ c.if-not-decodes.true))

pub returns-else-not-decodes-clause-vets : goal.returns-else-not-decodes-clause-vets
returns-else-not-decodes-clause-vets c = λ bytes e u.
    let k = (goal.at.returns-else-not-decodes-clause-vets c).After-unwrap_or-place in
    let z = sound (goal.at.returns-else-not-decodes-clause-vets c).Start in
    passed c.args.start.now bytes u (tested k z bytes e ∙ le-ltb _ _ c.if-place-list.false)
    (ended k z bytes e ∙ sym c.decodes.ensures ∙ c.if-not-decodes.false)
