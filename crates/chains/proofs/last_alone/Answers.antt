-- `chains::last_alone` meets its contract, a theorem of request 14, from the promises that it calls. Assumes nothing.
use Rattle.chains.specs.Chain.{left}
use Rattle.chains.proofs.Alone.{alone}
use Rattle.chains.proofs.last_alone.Goals as goal

pub returns : goal.returns
returns c = let alike = alone c.demand_3.ensures c.touched.ensures c.rule.ensures in
    λ ls ms s t d e. alike (left ls s) (left ms t)
