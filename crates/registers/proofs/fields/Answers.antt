-- `registers::fields` meets its contract, which is the theorem. Assumes nothing.
use Rattle.registers.proofs.Masks.{masks}
use Rattle.registers.proofs.fields.Goals as goal

pub returns : goal.returns
returns c = masks
