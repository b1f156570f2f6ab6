-- `promises::said` meets its contract, which is the theorem. Assumes nothing.
use Rattle.promises.proofs.AnyCut.{said}
use Rattle.promises.proofs.said.Goals as goal

pub returns : goal.returns
returns c = said
