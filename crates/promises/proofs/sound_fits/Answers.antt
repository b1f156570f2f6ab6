-- `promises::sound_fits` meets its contract: by what `request::never_lifted` says. Assumes nothing.
use Rattle.promises.proofs.Fitting.{fitting}
use Rattle.promises.proofs.sound_fits.Goals as goal

pub returns : goal.returns
returns c = fitting c.never_lifted.ensures
