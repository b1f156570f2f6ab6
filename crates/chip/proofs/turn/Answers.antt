-- `chip::turn` meets its contract, which is the theorem. Assumes nothing.
use Rattle.chip.proofs.Writes.{turned}
use Rattle.chip.proofs.turn.Goals as goal

pub returns : goal.returns
returns c = turned
