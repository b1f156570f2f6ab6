-- `chip::Chip::vsync` meets its contract. Assumes nothing.
use mathlib.Core.Path.{ap}
use Rattle.chip.specs.Write.{lent_as, vsync_of}
use Rattle.chip.proofs.Chip.vsync.Goals as goal

pub returns : goal.returns
unfolding vsync_of
returns c = let s = c.args.self in
    ap (lent_as s.image s.packet s.coefficients) c.waits_on.ensures
