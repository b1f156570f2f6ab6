-- `views::entered_vsync` meets its contract, which is the theorem. Assumes nothing.
use Rattle.views.proofs.Shown.{entered_vsync}
use Rattle.views.proofs.entered_vsync.Goals as goal

pub returns : goal.returns
returns c = entered_vsync
