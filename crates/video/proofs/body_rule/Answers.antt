-- `video::body_rule` meets its contract, which is the theorem. Assumes nothing.
use Rattle.video.proofs.Bodies.{bodies}
use Rattle.video.proofs.body_rule.Goals as goal

pub returns : goal.returns
returns c = bodies
