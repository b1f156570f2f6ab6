-- `promises::from_meter` meets its contract, which is the promise. Assumes nothing.
use Rattle.promises.proofs.Metered.{from_meter}
use Rattle.promises.proofs.from_meter.Goals as goal

pub returns : goal.returns
returns c = from_meter
