-- `sound::body_rule` meets its contract, which is the theorem. Assumes nothing.
use Rattle.sound.proofs.Bodies.{bodies}
use Rattle.sound.proofs.body_rule.Goals as goal

pub returns : goal.returns
returns c = bodies
