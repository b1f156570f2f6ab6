-- `views::refusals_of_a_view` meets its contract, which is the theorem. Assumes nothing.
use Rattle.views.proofs.Seen.{refusals}
use Rattle.views.proofs.refusals_of_a_view.Goals as goal

pub returns : goal.returns
returns c = refusals
