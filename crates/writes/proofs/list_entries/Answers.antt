-- `writes::list_entries` meets its contract, which is the theorem. Assumes nothing.
use Rattle.writes.proofs.Carries.{entries}
use Rattle.writes.proofs.list_entries.Goals as goal

pub returns : goal.returns
returns c = entries
