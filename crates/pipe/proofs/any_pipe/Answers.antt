-- `pipe::any_pipe` meets its contract, which is the theorem. Assumes nothing.
use Rattle.pipe.proofs.Grows.{any_pipe}
use Rattle.pipe.proofs.any_pipe.Goals as goal

pub returns : goal.returns
returns c = any_pipe
