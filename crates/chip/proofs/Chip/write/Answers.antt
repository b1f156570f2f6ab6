-- `chip::Chip::write` meets its contract. Assumes nothing.
use mathlib.Core.Path.{◌≡◌, ap, sym, ◌∙◌}
use Rattle.std.proofs.lemmas.Result.{err_from_is_err_and}
use Rattle.chip.specs.Numbered.{wrote_told, applied_told}
use Rattle.chip.proofs.Writes.{refused_left}
use Rattle.chip.proofs.Chip.write.Goals as goal

-- a refused write leaves the state
pub returns-in_err-apply : goal.returns-in_err-apply
returns-in_err-apply c = let a = c.args in
    let p = err_from_is_err_and c.from_residual.result c.from_residual.ensures.1 in
    let e = c.in_err-apply.field-0.0 in
    rw p.1 (rw p.2 (refused_left a.self a.address a.value e c.apply.new.self (rw c.in_err-apply.was at c.apply.ensures)))
