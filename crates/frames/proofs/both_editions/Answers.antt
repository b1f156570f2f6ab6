-- `frames::both_editions` meets its contract, which is the theorem. Assumes nothing.
use Rattle.frames.proofs.Readers.{editions}
use Rattle.frames.proofs.both_editions.Goals as goal

pub returns : goal.returns
returns c = editions
