-- `cut::no_longer` meets its contract, which is the theorem. Assumes nothing.
use Rattle.cut.proofs.NoLonger.{shorter}
use Rattle.cut.proofs.no_longer.Goals as goal

pub returns : goal.returns
returns c = shorter
