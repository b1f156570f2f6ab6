-- `request::lengths` meets its contract, which is the theorem. Assumes nothing.
use Rattle.request.proofs.Cut as cut
use Rattle.request.proofs.lengths.Goals as goal

pub returns : goal.returns
returns c = cut.lengths
