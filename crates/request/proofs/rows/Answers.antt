-- `request::rows` meets its contract, which is the theorem. Assumes nothing.
use Rattle.request.proofs.Coherent as coherent
use Rattle.request.proofs.rows.Goals as goal

pub returns : goal.returns
returns c = coherent.rows
