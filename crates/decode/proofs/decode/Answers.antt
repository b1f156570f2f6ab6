-- `decode::decode` meets its contract, row by row. Assumes nothing.
use mathlib.Core.Path.{◌≡◌, refl, sym, ◌∙◌}
use mathlib.Core.Logic.{◌≢◌}
use mathlib.Core.Bool.{true, false}
use native.Mathlib.Omega.{arith}
use lib.ListN.{length}
use borrow.Author.Rules.{rules}
use Rattle.std.proofs.lemmas.Grind.{common_steps}
use Rattle.decode.specs.Numbered.{decoded_told, not_decoded}
use Rattle.decode.specs.Extract.{extract}
use Rattle.decode.specs.Decode.{some_ends}
use Rattle.decode.proofs.Found.{small, seven, ten, eleven, none, refuses, accepts}
use Rattle.decode.proofs.decode.Goals as goal
use Rattle.decode.proofs.decode.Goals.{After-ends}

module _ (c : After-ends) where
  sized : length c.args.image.now ≡ 256
  sized = search rules

  same : c.in_ok-image.image.now ≡ c.args.image.now
  same = search rules

  extracted : c.extract-q.result ≡ extract c.args.image.now
  extracted = rw same at c.extract-q.ensures

  tested : c.ends.result ≡ some_ends c.args.image.now
  unfolding some_ends
  tested = rw (same, extracted) at c.ends.ensures

pub returns-in_err-image : goal.returns-in_err-image
returns-in_err-image c = let a = c.args in
    let n : length a.image.now ≢ 256 = grind (arith, common_steps) in
    let r : decoded_told c.from_residual.result ≡ not_decoded 7 = grind (arith, common_steps) in
    refuses a.image.now a.buffer.now 7 r (seven a.image.now a.buffer.now n) (omega arith)

pub returns-then-buffer-lt-LONGEST : goal.returns-then-buffer-lt-LONGEST
returns-then-buffer-lt-LONGEST c = let a = c.args in
    let l : length a.image.now ≡ 256 = search rules in
    refuses a.image.now a.buffer.now 10 refl (ten a.image.now a.buffer.now l c.if-buffer-lt-LONGEST.true) (omega arith)

pub returns-then-not-ends : goal.returns-then-not-ends
returns-then-not-ends c = let a = c.args in
    let e = (goal.at.returns-then-not-ends c).After-ends in
    let f : c.ends.result ≡ false = search rules in
    refuses a.image.now a.buffer.now 11 refl
    (eleven a.image.now a.buffer.now (sized e) c.if-buffer-lt-LONGEST.false (sym (tested e) ∙ f)) (omega arith)

pub emit-requires : goal.emit-requires
emit-requires c = let e = (goal.at.emit-requires c).After-ends in
    let image = c.args.image.now in
    record { long = c.if-buffer-lt-LONGEST.false; small = rw (extracted e) (small image (sized e)) }

pub returns : goal.returns
returns c = let a = c.args in
    let e = (goal.at.returns c).After-ends in
    let t : c.ends.result ≡ true = search rules in
    let w = c.emit.ensures in
    accepts a.image.now a.buffer.now
    (none a.image.now a.buffer.now (sized e) c.if-buffer-lt-LONGEST.false (sym (tested e) ∙ t))
    (extracted e) w.value.0 w.buffer_after
