-- `request::read` meets its contract: rows 1 to 6, and then the limits. Assumes nothing.
use mathlib.Core.Path.{ap, ◌∙◌}
use Rattle.std.proofs.lemmas.Result.{err_from_is_err_and}
use Rattle.request.specs.Read.{read_of, limited}
use Rattle.request.proofs.Numbers.{refused_stays, limit_read}
use Rattle.request.proofs.read.Goals as goal

pub returns-in_err-request-clause-reads : goal.returns-in_err-request-clause-reads
unfolding read_of
returns-in_err-request-clause-reads c =
    let p = err_from_is_err_and c.from_residual.result c.from_residual.ensures.1 in
    rw (p.1, p.2) (refused_stays _ ∙ ap limited c.in_err-request.ensures)

pub returns-clause-reads : goal.returns-clause-reads
unfolding read_of
returns-clause-reads c = rw (c.err-limit.ensures.value) (limit_read _ _ c.limits.ensures ∙ ap limited c.in_ok-request.ensures)
