-- `sound::rate_table` meets its contract, which is the theorem. Assumes nothing.
use Rattle.sound.proofs.Rates.{table}
use Rattle.sound.proofs.rate_table.Goals as goal

pub returns : goal.returns
returns c = table
