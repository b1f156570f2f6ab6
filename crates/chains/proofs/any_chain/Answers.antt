-- `chains::any_chain` meets its contract, a theorem of request 14, from the promises that it calls. Assumes nothing.
use Rattle.chains.proofs.Points.{any_chain}
use Rattle.chains.proofs.any_chain.Goals as goal

pub returns : goal.returns
returns c = any_chain c.demand_3.ensures
