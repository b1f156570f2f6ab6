-- `promises::each_byte` meets its contract, which is the theorem. Assumes nothing.
use Rattle.promises.proofs.EachByte as laws
use Rattle.promises.proofs.each_byte.Goals as goal

pub returns : goal.returns
returns c = laws.each_byte
