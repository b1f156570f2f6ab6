-- `video::exception` meets its contract, which is the theorem. Assumes nothing.
use Rattle.video.proofs.Alike.{exceptions}
use Rattle.video.proofs.exception.Goals as goal

pub returns : goal.returns
returns c = exceptions
