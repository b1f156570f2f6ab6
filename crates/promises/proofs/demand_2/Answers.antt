-- `promises::demand_2` meets its contract, which is the demand. Assumes nothing.
use Rattle.promises.proofs.AnyCut.{rules}
use Rattle.promises.proofs.demand_2.Goals as goal

pub returns : goal.returns
returns c = rules
