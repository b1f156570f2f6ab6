-- `decode::exactly_when` meets its contract, which is the theorem. Assumes nothing.
use Rattle.decode.proofs.Answers as answers
use Rattle.decode.proofs.exactly_when.Goals as goal

pub returns : goal.returns
returns c = answers.exactly
