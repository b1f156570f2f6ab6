-- `wiring::in_range` meets its contract, which is the theorem. Assumes nothing.
use Rattle.wiring.proofs.Fits.{in_range_lem}
use Rattle.wiring.proofs.in_range.Goals as goal

pub returns : goal.returns
returns c = in_range_lem
