-- `cut::room_for_vsync` meets its contract, which is the theorem. Assumes nothing.
use Rattle.cut.proofs.DemandOfWriteList.{room_left}
use Rattle.cut.proofs.room_for_vsync.Goals as goal

pub returns : goal.returns
returns c = room_left
