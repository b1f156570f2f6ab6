-- `plan::plan` meets its contract. Assumes nothing.
use mathlib.Core.Path.{refl, ◌∙◌}
use native.Mathlib.Omega.{arith}
use Rattle.std.proofs.lemmas.Result.{err_from_is_err_and}
use Rattle.plan.proofs.Allowed.{read_allowed}
use Rattle.plan.proofs.Answer.{unread, reads}
use Rattle.plan.proofs.plan.Goals as goal

pub returns-in_err-read : goal.returns-in_err-read
returns-in_err-read c = let a = c.args in
    let p = err_from_is_err_and c.from_residual.result c.from_residual.ensures.1 in
    unread a.input.now a.image.now a.writes.now _ _ (rw (p.1, p.2) refl) c.in_err-read.ensures.reads

pub returns-in_err-request : goal.returns-in_err-request
returns-in_err-request c = let a = c.args in
    let p = err_from_is_err_and c.from_residual-in_err-request.result c.from_residual-in_err-request.ensures.1 in
    unread a.input.now a.image.now a.writes.now _ _ (rw (p.1, p.2) refl) (c.in_err-request.ensures ∙ c.in_ok-read.ensures.reads)

pub invariant_of-plan_with : goal.invariant_of-plan_with
invariant_of-plan_with c = record { allowed = read_allowed c.args.input.now (λ i. omega (arith, c.type_inv.input i)) _ (c.in_ok-request.ensures ∙ c.in_ok-read.ensures.reads) }

pub returns : goal.returns
returns c = let a = c.args in
    reads a.input.now a.image.now a.writes.now _ c.plan_with.ensures (c.in_ok-request.ensures ∙ c.in_ok-read.ensures.reads)
