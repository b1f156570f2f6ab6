-- `cut::mended_run` meets its contract, which is the theorem. Assumes nothing.
use Rattle.cut.proofs.MendedRun.{mended}
use Rattle.cut.proofs.mended_run.Goals as goal

pub returns : goal.returns
returns c = mended
