-- `line::verdicts` meets its contract, which is the theorem. Assumes nothing.
use Rattle.line.proofs.Told as laws
use Rattle.line.proofs.verdicts.Goals as goal

pub returns : goal.returns
returns c = laws.verdicts
