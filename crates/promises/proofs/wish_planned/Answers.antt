-- `promises::wish_planned` meets its contract: what N and CTS accepts can be planned. Assumes nothing.
use Rattle.promises.specs.Wished.{as_wished}
use Rattle.promises.proofs.Piped.{can_be_planned}
use Rattle.promises.proofs.wish_planned.Goals as goal

pub returns : goal.returns
returns c edid input wishes = record { planned = λ z image buffer. can_be_planned (as_wished edid input wishes) image buffer ((c.choices.ensures edid input wishes).accepted z) }
