-- `refusals::told_apart` meets its contract. Assumes nothing.
use Rattle.refusals.proofs.Apart as apart
use Rattle.refusals.proofs.told_apart.Goals as goal

pub returns : goal.returns
returns c = apart.told_apart
