-- `promises::on_some_image` meets its contract, which is the theorem. Assumes nothing.
use Rattle.promises.proofs.AnyCut.{on_some_image}
use Rattle.promises.proofs.on_some_image.Goals as goal

pub returns : goal.returns
returns c = on_some_image
