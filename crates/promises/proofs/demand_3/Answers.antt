-- `promises::demand_3` meets its contract, which is the demand. Assumes nothing.
use Rattle.promises.proofs.AnyCut.{any_cut}
use Rattle.promises.proofs.demand_3.Goals as goal

pub returns : goal.returns
returns c = any_cut
