-- `edid::Pcm::is_covered` meets its contract. Assumes nothing.
use Rattle.std.proofs.Common.{arith}
use Rattle.std.proofs.lemmas.Bool.Decides.{nat_tests}
use Rattle.bits.proofs.Laws.{bit_code}
use Rattle.edid.proofs.Cut.{low}
use Rattle.edid.proofs.Pcm.is_covered.Goals as goal

pub returns-then-self-lt7 : goal.returns-then-self-lt7
returns-then-self-lt7 c = rw (low 8 c.args.first, bit_code c.args.self.rate c.args.rates) (grind (arith, nat_tests))
