-- `cut::fair_run` meets its contract, which is the theorem. Assumes nothing.
use Rattle.cut.proofs.FairRunLeaves.{untouched}
use Rattle.cut.proofs.fair_run.Goals as goal

pub returns : goal.returns
returns c = untouched
