-- `cut::any_cut` meets its contract, which is the theorem. Assumes nothing.
use Rattle.cut.proofs.DemandOfWriteList.{holds}
use Rattle.cut.proofs.any_cut.Goals as goal

pub returns : goal.returns
returns c = holds
