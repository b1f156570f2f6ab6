-- `request::stages` meets its contract, which is the theorem. Assumes nothing.
use Rattle.request.proofs.Coherent as coherent
use Rattle.request.proofs.stages.Goals as goal

pub returns : goal.returns
returns c = coherent.stages
