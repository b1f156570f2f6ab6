-- `video::mode_table` meets its contract, which is the theorem. Assumes nothing.
use Rattle.video.proofs.Listed.{table}
use Rattle.video.proofs.mode_table.Goals as goal

pub returns : goal.returns
returns c = table
