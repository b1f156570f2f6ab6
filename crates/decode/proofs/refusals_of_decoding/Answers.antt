-- `decode::refusals_of_decoding` meets its contract, which is the theorem. Assumes nothing.
use Rattle.decode.proofs.Answers as answers
use Rattle.decode.proofs.refusals_of_decoding.Goals as goal

pub returns : goal.returns
returns c = answers.refusals
