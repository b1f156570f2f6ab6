-- `writes::touched` meets its contract, which is the theorem. Assumes nothing.
use Rattle.writes.proofs.InOrder.{touched}
use Rattle.writes.proofs.touched.Goals as goal

pub returns : goal.returns
returns c = touched
