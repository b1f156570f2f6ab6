-- `views::refusals_of_the_matrix` meets its contract, which is the theorem. Assumes nothing.
use Rattle.views.proofs.Used.{refusals}
use Rattle.views.proofs.refusals_of_the_matrix.Goals as goal

pub returns : goal.returns
returns c = refusals
