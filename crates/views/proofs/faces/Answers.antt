-- `views::faces` meets its contract, which is the theorem. Assumes nothing.
use Rattle.lists.proofs.Decides.{refuted}
use Rattle.chip.proofs.Writes.{two_up}
use Rattle.views.proofs.Shown.{shown}
use Rattle.views.proofs.faces.Goals as goal

pub returns : goal.returns
returns c = λ s z none. shown s z (refuted (two_up s.image) none)
