-- `cut::full_list` meets its contract, which is the theorem. Assumes nothing.
use Rattle.cut.proofs.DemandOfFullList.{full_holds}
use Rattle.cut.proofs.full_list.Goals as goal

pub returns : goal.returns
returns c = full_holds
