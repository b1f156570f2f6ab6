-- `views::view_cases` meets its contract, which is the table. Assumes nothing.
use Rattle.views.proofs.Cases.{cases}
use Rattle.views.proofs.view_cases.Goals as goal

pub returns : goal.returns
returns c = cases
