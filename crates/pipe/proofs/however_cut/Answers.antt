-- `pipe::however_cut` meets its contract, which is the theorem. Assumes nothing.
use Rattle.pipe.proofs.Cut.{however_cut}
use Rattle.pipe.proofs.however_cut.Goals as goal

pub returns : goal.returns
returns c = however_cut
