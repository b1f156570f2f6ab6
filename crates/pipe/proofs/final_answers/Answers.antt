-- `pipe::final_answers` meets its contract, which is the theorem. Assumes nothing.
use Rattle.pipe.proofs.Early.{finals, deciding}
use Rattle.pipe.proofs.final_answers.Goals as goal

pub returns : goal.returns
returns c = record { finals = finals; deciding = deciding }
