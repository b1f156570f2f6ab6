-- `request::never_lifted` meets its contract, which is the theorem. Assumes nothing.
use Rattle.request.proofs.Lifted.{never_lifted}
use Rattle.request.proofs.never_lifted.Goals as goal

pub returns : goal.returns
returns c = never_lifted
