-- `line::Text::named` meets its contract: the name, and then the number. Assumes nothing.
use Rattle.line.specs.Words.{decimal}
use Rattle.line.proofs.Stored.{then}
use Rattle.line.proofs.buffer.Text.named.Goals as goal

pub returns-clause-adds : goal.returns-clause-adds
returns-clause-adds c = then c.args.name.now (decimal c.args.n) c.text.ensures c.decimal.ensures
