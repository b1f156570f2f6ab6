-- `promises::two_readers` meets its contract, which is the theorem. Assumes nothing.
use Rattle.promises.proofs.AnyCut.{readers}
use Rattle.promises.proofs.two_readers.Goals as goal

pub returns : goal.returns
returns c = readers
