-- `line::Text::decimal` meets its contract: the digits of a tenth, and then the last. Assumes nothing.
use native.Mathlib.Omega.{arith}
use Rattle.line.proofs.Digits.{small, large, small_length, large_length}
use Rattle.line.proofs.Stored.{then}
use Rattle.line.proofs.buffer.Text.+decimal.Goals as goal

pub digit-requires-clause-room : goal.digit-requires-clause-room
digit-requires-clause-room t c = omega (arith, c.requires, small_length c.args.n c.if-n-lt10.true)

pub decimal-requires : goal.decimal-requires
decimal-requires t c = (omega (arith, c.decreases, c.if-n-lt10.false), omega (arith, c.requires, large_length c.args.n c.if-n-lt10.false))

pub digit-requires-else-n-lt10-clause-room : goal.digit-requires-else-n-lt10-clause-room
digit-requires-else-n-lt10-clause-room t c = omega (arith, c.requires, c.decimal.ensures.count, large_length c.args.n c.if-n-lt10.false)

pub returns-then-n-lt10 : goal.returns-then-n-lt10
returns-then-n-lt10 t c = rw (small c.args.n c.if-n-lt10.true) c.digit.ensures

pub returns-else-n-lt10 : goal.returns-else-n-lt10
returns-else-n-lt10 t c = rw (large c.args.n c.if-n-lt10.false) (then _ _ c.decimal.ensures c.digit-else-n-lt10.ensures)
