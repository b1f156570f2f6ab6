-- `wiring::body_rule` meets its contract, which is the theorem. Assumes nothing.
use Rattle.wiring.proofs.Bodies.{bodies}
use Rattle.wiring.proofs.body_rule.Goals as goal

pub returns : goal.returns
returns c = bodies
