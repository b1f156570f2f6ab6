-- `request::sections::walk` meets its contract: the loop over the sections, turn by turn. Assumes nothing.
use mathlib.Core.Path.{◌≡◌, refl, sym}
use native.Mathlib.Omega.{arith}
use lib.ListN.{get_or, length-set}
use borrow.Author.Rules.{rules}
use Rattle.std.proofs.lemmas.Result.{err_from_is_err_and}
use Rattle.refusals.specs.declared.Refusal.TheVariants.{InputEnds}
use Rattle.request.proofs.Turns.{begin, out_of_bytes, refused, too_short, turn, last}
use Rattle.request.proofs.sections.walk.Goals as goal

pub loop-k-init : goal.loop-k-init
loop-k-init c = record { sized = refl; placed = search rules; turned = begin _ _ }

pub returns-in_err-count : goal.returns-in_err-count
returns-in_err-count c = let l = c.loop-k in
    let p = err_from_is_err_and c.from_residual.result c.from_residual.ensures.1 in
    let g = rw c.in_err-count.ensures.ok_part at c.get.ensures.lookup in
    let v = rw c.in_err-count.ensures.ok_part at c.in_err-count.ensures.value in
    let e : c.in_err-count.field-0.0 ≡ InputEnds = cc in
    rw (p.1, p.2, e, out_of_bytes _ _ _ _ l.invariant.turned (search rules) g.3)

pub returns-then-not-allows : goal.returns-then-not-allows
returns-then-not-allows c = let l = c.loop-k in
    let g = rw c.in_ok-count.ensures.ok_part at c.get.ensures.lookup in
    let e : c.in_ok-count.field-0.now ≡ get_or c.args.s.now c.loop-k.place 0 = g.4 (omega arith) 0 in
    rw (refused _ _ _ _ l.invariant.turned (search rules) g.3.0 (rw (← e) (sym c.if-not-allows.ensures)))

pub returns-then-s-start : goal.returns-then-s-start
returns-then-s-start c = let l = c.loop-k in
    let g = rw c.in_ok-count.ensures.ok_part at c.get.ensures.lookup in
    let e : c.in_ok-count.field-0.now ≡ get_or c.args.s.now c.loop-k.place 0 = g.4 (omega arith) 0 in
    rw (too_short _ _ _ _ l.invariant.turned (search rules) g.3.0 (rw (← e) (sym c.if-not-allows.ensures)) (omega (arith, c.if-s-start.true, c.from-n.ensures, e)))

pub loop-k-preserved : goal.loop-k-preserved
loop-k-preserved c = let l = c.loop-k in
    let g = rw c.in_ok-count.ensures.ok_part at c.get.ensures.lookup in
    let e : c.in_ok-count.field-0.now ≡ get_or c.args.s.now c.loop-k.place 0 = g.4 (omega arith) 0 in
    record {
      sized = simp length-set l.invariant.sized;
      placed = search rules;
      turned =
          rw (c.from-n.ensures, e)
          (turn _ _ _ _ l.invariant.turned (search rules) g.3.0 (rw (← e) (sym c.if-not-allows.ensures)) (omega (arith, c.if-s-start.false, c.from-n.ensures, e)) (search rules));
    }

pub returns : goal.returns
returns c = let l = c.loop-k in last _ _ _ _ l.invariant.turned (search rules) l.invariant.sized
