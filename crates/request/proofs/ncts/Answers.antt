-- `request::ncts` meets its contract. Assumes nothing.
use mathlib.Core.Path.{◌∙◌}
use Rattle.std.proofs.lemmas.Result.{err_from_is_err_and}
use Rattle.clock.specs.Answers.{no_pair}
use Rattle.request.specs.Read.{pair_for, ncts_of}
use Rattle.request.proofs.Numbers.{read_refuses, read_gives}
use Rattle.request.proofs.ncts.Goals as goal

pub returns-in_err-read : goal.returns-in_err-read
unfolding ncts_of
returns-in_err-read c =
    let p = err_from_is_err_and c.from_residual.result c.from_residual.ensures.1 in
    rw (p.1, p.2) (read_refuses no_pair pair_for _ _ _ c.in_err-read.ensures.reads)

pub returns-in_err-within : goal.returns-in_err-within
unfolding ncts_of
returns-in_err-within c =
    let p = err_from_is_err_and c.from_residual-in_err-within.result c.from_residual-in_err-within.ensures.1 in
    rw (p.1, p.2) (read_refuses no_pair pair_for _ _ _ (c.in_err-within.ensures ∙ c.in_ok-read.ensures.reads))

pub returns : goal.returns
unfolding ncts_of
returns c = c.pair.ensures ∙ read_gives no_pair pair_for _ _ (c.in_ok-within.ensures ∙ c.in_ok-read.ensures.reads)
