-- `registers::rule` meets its contract, which is the theorem. Assumes nothing.
use Rattle.registers.proofs.Whole as whole
use Rattle.registers.proofs.rule.Goals as goal

pub returns : goal.returns
returns c = whole.rule
