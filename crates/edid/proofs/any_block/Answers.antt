-- `edid::any_block` meets its contract: block by block. Assumes nothing.
use mathlib.Core.Path.{◌≡◌, sym, ◌∙◌}
use mathlib.Core.List.{◌∷◌}
use Prim.Native.Nat.{◌%◌, ◌<◌}
use lib.ListN.{length}
use borrow.Author.Rules.{rules}
use Rattle.std.specs.List.{IsSplitAt}
use Rattle.edid.proofs.Cut.{at_end, cut_off, found, passed_over}
use Rattle.edid.proofs.any_block.Goals as goal

pub returns-in_err-body : goal.returns-in_err-body
returns-in_err-body g c = λ test t.
    let e : c.loop-head.left.now ≡ c.in-Some.head.now ∷ c.in-Some.behind.now = search rules in
    let h : length c.in-Some.behind.now < c.in-Some.head.now % 32 = search rules in
    c.loop-head.invariant test t _ (cut_off test _ _ _ e h _ (search rules))

pub returns-then-test : goal.returns-then-test
returns-then-test g c = λ test t.
    let e : c.loop-head.left.now ≡ c.in-Some.head.now ∷ c.in-Some.behind.now = search rules in
    let s : IsSplitAt c.in-Some.behind.now (c.in-Some.head.now % 32) c.in_ok-body.body.now c.in_ok-body.rest.now = search rules in
    c.loop-head.invariant test t _ (found test _ _ _ e (search rules) _ _ s (sym (t _ _ _ c.test.ensures) ∙ c.if-test.true))

pub loop-head-preserved : goal.loop-head-preserved
loop-head-preserved g c = λ test t r a.
    let e : c.loop-head.left.now ≡ c.in-Some.head.now ∷ c.in-Some.behind.now = search rules in
    let s : IsSplitAt c.in-Some.behind.now (c.in-Some.head.now % 32) c.in_ok-body.body.now c.in_ok-body.rest.now = search rules in
    c.loop-head.invariant test t r (passed_over test _ _ _ e (search rules) _ _ s (sym (t _ _ _ c.test.ensures) ∙ c.if-test.false) r a)

pub returns : goal.returns
returns g c = λ test t. c.loop-head.invariant test t _ (at_end test _ (search rules))
