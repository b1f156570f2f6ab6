-- `promises::settled` meets its contract, which is the promise. Assumes nothing.
use Rattle.promises.proofs.Outcomes.{settled}
use Rattle.promises.proofs.settled.Goals as goal

pub returns : goal.returns
returns c = settled
