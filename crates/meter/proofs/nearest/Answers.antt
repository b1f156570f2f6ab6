-- `meter::nearest` meets its contract. Assumes nothing.
use Rattle.meter.proofs.Shifted.{far}
use Rattle.meter.proofs.nearest.Goals as goal

pub returns-then-shift-gt25 : goal.returns-then-shift-gt25
returns-then-shift-gt25 c = far c.args.digits c.args.shift c.requires c.if-shift-gt25.true
