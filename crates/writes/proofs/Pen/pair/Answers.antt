-- `writes::Pen::pair` meets its contract. Assumes nothing.
use mathlib.Core.Path.{refl}
use lib.ListN.{length-set}
use Rattle.writes.proofs.Parts.{one}
use Rattle.writes.proofs.Pen.pair.Goals as goal

pub returns : goal.returns
returns c = let pen = c.args.self.now in
    record {
      same_buffer = refl;
      same_room = simp length-set;
      same_image = refl;
      same_bytes = refl;
      puts = one pen.writes.now pen.at c.args.address c.args.byte;
    }
