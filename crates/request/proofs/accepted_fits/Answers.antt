-- `request::accepted_fits` meets its contract, which is the theorem. Assumes nothing.
use Rattle.request.proofs.Fits.{fits}
use Rattle.request.proofs.accepted_fits.Goals as goal

pub returns : goal.returns
returns c = fits
