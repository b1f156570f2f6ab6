-- `vet::inputs` meets its contract, which is the theorem. Assumes nothing.
use Rattle.vet.proofs.Taken as laws
use Rattle.vet.proofs.inputs.Goals as goal

pub returns : goal.returns
returns c = laws.inputs
