-- `edid::accepted` meets its contract: by reading, and then by the pair. Assumes nothing.
use mathlib.Core.Path.{refl, ◌∙◌}
use Rattle.std.proofs.lemmas.Result.{err_from_is_err_and}
use Rattle.edid.proofs.Shown.{refused, unpaired, paired}
use Rattle.edid.proofs.accepted.Goals as goal

pub returns-in_err-read : goal.returns-in_err-read
returns-in_err-read c =
    let p = err_from_is_err_and c.from_residual.result c.from_residual.ensures.1 in
    rw p.1 (refused c.args.request.now _ _ c.in_err-read.ensures.reads)

pub returns-in_err-asked : goal.returns-in_err-asked
returns-in_err-asked c =
    let p = err_from_is_err_and c.from_residual-in_err-asked.result c.from_residual-in_err-asked.ensures.1 in
    rw p.1 (refused c.args.request.now _ _ (c.in_err-asked.ensures ∙ c.in_ok-read.ensures.reads))

pub returns-in_err-pair : goal.returns-in_err-pair
returns-in_err-pair c =
    let p = err_from_is_err_and c.from_residual-in_err-pair.result c.from_residual-in_err-pair.ensures.1 in
    rw p.1 (unpaired c.args.request.now _ (c.in_ok-asked.ensures ∙ c.in_ok-read.ensures.reads) _ c.in_err-pair.ensures)

pub returns : goal.returns
returns c = paired c.args.request.now _ (c.in_ok-asked.ensures ∙ c.in_ok-read.ensures.reads) _ refl c.in_ok-pair.ensures
