-- `request::Request::allowed` meets its contract: rows 4 to 6, and then the limits. Assumes nothing.
use mathlib.Core.Path.{◌∙◌}
use Rattle.std.proofs.lemmas.Result.{err_from_is_err_and}
use Rattle.request.specs.Read.{allowed_of}
use Rattle.refusals.proofs.Told.{by_refusal, by_none}
use Rattle.request.proofs.Judged.{number_in_hand}
use Rattle.request.proofs.Request.allowed.Goals as goal

pub returns-in_err-check : goal.returns-in_err-check
unfolding allowed_of
returns-in_err-check c =
    let p = err_from_is_err_and c.from_residual.result c.from_residual.ensures.1 in
    let r = c.args.self in
    rw (p.1, p.2) (by_refusal (λ n. n) _ _ _ (number_in_hand r.wiring r.video r.sound r.matrix c.of.result _ c.of.ensures.out_of_range c.of.ensures.missing c.in_err-check.ensures))

pub returns : goal.returns
unfolding allowed_of
returns c = let r = c.args.self in
    c.limits.ensures ∙ by_none (λ n. n) _ _ (number_in_hand r.wiring r.video r.sound r.matrix c.of.result _ c.of.ensures.out_of_range c.of.ensures.missing c.in_ok-check.ensures)
