-- `promises::other_calls` meets its contract, which is the theorem. Assumes nothing.
use Rattle.promises.proofs.AnyInput.{other_calls}
use Rattle.promises.proofs.other_calls.Goals as goal

pub returns : goal.returns
returns c = other_calls
