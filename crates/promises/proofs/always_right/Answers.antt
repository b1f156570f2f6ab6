-- `promises::always_right` meets its contract, which is the theorem. Assumes nothing.
use Rattle.promises.proofs.AnyCut.{always_right}
use Rattle.promises.proofs.always_right.Goals as goal

pub returns : goal.returns
returns c = always_right
