-- `registers::read_only` meets its contract: its table is a column of the class table. Assumes nothing.
use Rattle.registers.specs.declared.Class.{Class}
use Rattle.registers.proofs.Columns.{at_address}
use Rattle.registers.proofs.read_only.Goals as goal

pub returns : goal.returns
returns c = at_address (λ (row : Class). row.read_only) c.args.a
