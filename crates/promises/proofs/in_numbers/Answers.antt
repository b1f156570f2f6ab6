-- `promises::in_numbers` meets its contract, which is the theorem. Assumes nothing.
use Rattle.promises.proofs.InNumbers as laws
use Rattle.promises.proofs.in_numbers.Goals as goal

pub returns : goal.returns
returns c = laws.in_numbers
