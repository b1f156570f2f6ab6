-- `cut::retried_run` meets its contract, which is the theorem. Assumes nothing.
use Rattle.cut.proofs.Repeated.{retries}
use Rattle.cut.proofs.retried_run.Goals as goal

pub returns : goal.returns
returns c = retries
