-- `promises::worked_example` meets its contract, which is the theorem. Assumes nothing.
use Rattle.promises.proofs.Example.{worked}
use Rattle.promises.proofs.worked_example.Goals as goal

pub returns : goal.returns
returns c = worked
