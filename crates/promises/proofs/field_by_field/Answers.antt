-- `promises::field_by_field` meets its contract, which is the theorem. Assumes nothing.
use Rattle.promises.proofs.Shown.{shown}
use Rattle.promises.proofs.field_by_field.Goals as goal

pub returns : goal.returns
returns c = shown
