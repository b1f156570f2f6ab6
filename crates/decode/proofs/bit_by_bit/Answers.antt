-- `decode::bit_by_bit` meets its contract, which is the theorem. Assumes nothing.
use Rattle.decode.proofs.BitByBit as bits
use Rattle.decode.proofs.bit_by_bit.Goals as goal

pub returns : goal.returns
returns c = bits.bit_by_bit
