-- `decode::read_back` meets its contract, which is the theorem. Assumes nothing.
use Rattle.decode.proofs.Answers as answers
use Rattle.decode.proofs.read_back.Goals as goal

pub returns : goal.returns
returns c = answers.read_back_lem
