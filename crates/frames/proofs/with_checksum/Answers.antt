-- `frames::with_checksum` meets its contract: the place of the checksum is 0 while the sum is taken. Assumes nothing.
use Rattle.std.proofs.Common.{rules}
use Rattle.frames.proofs.Total.{summed}
use Rattle.frames.proofs.with_checksum.Goals as goal

pub returns : goal.returns
returns g c = rw c.checksum.ensures (summed c.args.bytes (search rules) c.requires.1)
