-- `vendor::vetted`: what the verdict says of a list. Assumes nothing.
use Rattle.vendor.proofs.Judged.{vetted}
use Rattle.vendor.proofs.vetted.Goals as goal

pub returns : goal.returns
returns c = vetted
