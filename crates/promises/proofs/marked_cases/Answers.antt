-- `promises::marked_cases` meets its contract, which is the table. Assumes nothing.
use Rattle.promises.proofs.Cases.{cases}
use Rattle.promises.proofs.marked_cases.Goals as goal

pub returns : goal.returns
returns c = cases
