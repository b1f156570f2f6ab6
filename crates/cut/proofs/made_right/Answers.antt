-- `cut::made_right` meets its contract, which is the theorem. Assumes nothing.
use Rattle.cut.proofs.ShorterWithin.{made_right_lem}
use Rattle.cut.proofs.made_right.Goals as goal

pub returns : goal.returns
returns c = made_right_lem
