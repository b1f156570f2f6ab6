-- `promises::demand_1` meets its contract, which is the promise. Assumes nothing.
use Rattle.promises.proofs.AnyInput as any
use Rattle.promises.proofs.demand_1.Goals as goal

pub returns : goal.returns
returns c = any.any_input
