-- `meter::Meter::convert` meets its contract: before turn `mode` no smaller mode fits. Assumes nothing.
use mathlib.Core.Path.{sym, ap, ◌∙◌}
use native.Mathlib.Omega.{arith}
use borrow.Author.Rules.{rules}
use Rattle.meter.specs.Found.{fields_in, fits_in, converted}
use Rattle.meter.proofs.Answers.{with_fields, not_finite, in_mode_lem, in_none_lem}
use Rattle.meter.proofs.Held.{some}
use Rattle.meter.proofs.Meter.convert.Goals as goal

pub returns-then-not-all_finite : goal.returns-then-not-all_finite
returns-then-not-all_finite c = not_finite _ (sym c.all_finite.ensures ∙ c.if-not-all_finite.true) ∙ ap converted c.numbers-numbers.ensures

pub returns-in-Some : goal.returns-in-Some
returns-in-Some c =
    let l = c.loop-mode in
    let n = c.numbers-numbers in
    let f = some (fits_in l.mode n.result) (fields_in l.mode n.result) c.in-Some.coefficients (sym c.fields_in.ensures ∙ c.in-Some.is) in
    ap (with_fields l.mode) (sym f.1) ∙ in_mode_lem n.result l.mode (search rules) l.invariant.0 l.invariant.1 f.0 ∙ ap converted n.ensures

pub returns : goal.returns
returns c =
    let l = c.loop-mode in
    let n = c.numbers-numbers in
    in_none_lem n.result l.invariant.0 (λ k h. l.invariant.1 k (omega arith)) ∙ ap converted n.ensures
