-- `writes::Pen::put_other` meets its contract. Assumes nothing.
use mathlib.Core.Path.{refl}
use Rattle.writes.proofs.Parts.{one_stands}
use Rattle.writes.proofs.Pen.put_other.Goals as goal

pub returns-else-byte-self-clause-puts : goal.returns-else-byte-self-clause-puts
returns-else-byte-self-clause-puts c = let pen = c.args.self.now in
    record {
      same_buffer = refl;
      same_room = refl;
      same_image = refl;
      same_bytes = refl;
      puts = one_stands pen.image.now pen.bytes.now pen.writes.now pen.at c.args.address (rw c.from-register.ensures at c.if-byte-self.false);
    }
