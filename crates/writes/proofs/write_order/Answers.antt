-- `writes::write_order` meets its contract, which is the theorem. Assumes nothing.
use Rattle.writes.proofs.InOrder.{in_order}
use Rattle.writes.proofs.write_order.Goals as goal

pub returns : goal.returns
returns c = in_order
