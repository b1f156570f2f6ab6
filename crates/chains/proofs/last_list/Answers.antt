-- `chains::last_list` meets its contract, a theorem of request 14, from the promises that it calls. Assumes nothing.
use Rattle.chains.proofs.Ended.{list_ended}
use Rattle.chains.proofs.last_list.Goals as goal

pub returns : goal.returns
returns c = list_ended c.below.ensures
