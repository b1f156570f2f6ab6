-- `decode::at_most_one` meets its contract, which is the theorem. Assumes nothing.
use Rattle.decode.proofs.Answers as answers
use Rattle.decode.proofs.at_most_one.Goals as goal

pub returns : goal.returns
returns c = answers.at_most_one
