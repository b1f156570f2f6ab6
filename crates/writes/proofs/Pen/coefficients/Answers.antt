-- `writes::Pen::coefficients` meets its contract: a part after the other. Assumes nothing.
use Rattle.writes.proofs.Written.{writes_then}
use Rattle.writes.proofs.Pen.coefficients.Goals as goal

pub returns-clause-puts : goal.returns-clause-puts
returns-clause-puts c = writes_then _ _ (writes_then _ _ (writes_then _ _ (writes_then _ _ c.put.ensures c.row.ensures.puts) c.put-2.ensures) c.row-2.ensures.puts) c.put-3.ensures
