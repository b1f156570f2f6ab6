-- `views::entered` meets its contract, which is the theorem. Assumes nothing.
use Rattle.views.proofs.Shown.{entered}
use Rattle.views.proofs.entered.Goals as goal

pub returns : goal.returns
returns c = entered
