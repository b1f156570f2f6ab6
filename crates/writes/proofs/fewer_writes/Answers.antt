-- `writes::fewer_writes` meets its contract, which is the theorem. Assumes nothing.
use Rattle.writes.proofs.Fewer.{fewer}
use Rattle.writes.proofs.fewer_writes.Goals as goal

pub returns : goal.returns
returns c = fewer
