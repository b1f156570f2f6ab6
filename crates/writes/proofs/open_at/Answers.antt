-- `writes::open_at` meets its contract: its table is a column of the registers. Assumes nothing.
use Rattle.bits.specs.Merge.{merge}
use Rattle.registers.specs.Classes.{class_at}
use Rattle.writes.specs.List.{decided, is_written, column}
use Rattle.writes.specs.Columns.{open_bits}
use Rattle.writes.proofs.Image.{column_at}
use Rattle.writes.proofs.open_at.Goals as goal

pub returns : goal.returns
unfolding column class_at decided is_written merge
returns c = column_at open_bits c.args.a c.requires
