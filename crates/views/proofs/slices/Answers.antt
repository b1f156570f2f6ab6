-- `views::slices` meets its contract, which is the theorem. Assumes nothing.
use Rattle.views.proofs.Shown.{slices}
use Rattle.views.proofs.slices.Goals as goal

pub returns : goal.returns
returns c = slices
