-- `views::refusals_of_a_write` meets its contract, which is the theorem. Assumes nothing.
use Rattle.views.proofs.Lent.{refusals}
use Rattle.views.proofs.refusals_of_a_write.Goals as goal

pub returns : goal.returns
returns c = refusals
