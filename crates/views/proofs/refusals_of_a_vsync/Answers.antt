-- `views::refusals_of_a_vsync` meets its contract, which is the theorem. Assumes nothing.
use Rattle.views.proofs.Lent.{turn_refusals}
use Rattle.views.proofs.refusals_of_a_vsync.Goals as goal

pub returns : goal.returns
returns c = turn_refusals
