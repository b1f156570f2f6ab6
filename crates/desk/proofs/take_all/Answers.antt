-- `desk::take_all` meets its contract: each turn that goes on leaves more bytes in the pipe, so that the loop ends. Assumes nothing.
use mathlib.Core.Path.{◌≡◌, ◌∙◌}
use lib.ListN.{length}
use borrow.Author.Rules.{rules}
use Rattle.desk.proofs.Turned.{reads_on, stops, fewer}
use Rattle.desk.proofs.take_all.Goals as goal

pub loop-smaller : goal.loop-smaller
loop-smaller c = let t = c.take_some in fewer c.loop.pipe t.result t.new.pipe c.loop.invariant.1 t.ensures c.loop-test.true

pub loop-preserved : goal.loop-preserved
loop-preserved c = let t = c.take_some in
    let n : length t.new.pipe ≡ length c.loop.pipe = search rules in
    (n ∙ c.loop.invariant.0, reads_on c.loop.pipe t.result t.new.pipe c.loop.invariant.1 t.ensures c.loop-test.true)

pub returns : goal.returns
returns c = let t = c.take_some in stops c.loop.pipe t.result t.new.pipe c.loop.invariant.1 t.ensures c.loop-test.false
