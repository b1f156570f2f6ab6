-- `promises::through_pipe` meets its contract, which is the promise. Assumes nothing.
use Rattle.promises.proofs.Piped.{through_pipe}
use Rattle.promises.proofs.through_pipe.Goals as goal

pub returns : goal.returns
returns c = through_pipe
