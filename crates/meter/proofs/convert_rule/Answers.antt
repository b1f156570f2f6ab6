-- The theorem that `meter::convert_rule` states: what becomes of the struct, in document 02's words.
-- Assumes nothing.
use Rattle.meter.proofs.Rule.{convert_rule}
use Rattle.meter.proofs.convert_rule.Goals as goal

pub returns : goal.returns
returns c = convert_rule
