-- `request::in_hand` meets its contract, which is the theorem. Assumes nothing.
use Rattle.request.proofs.Hand.{in_hand}
use Rattle.request.proofs.in_hand.Goals as goal

pub returns : goal.returns
returns c = in_hand
