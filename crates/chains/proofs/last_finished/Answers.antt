-- `chains::last_finished` meets its contract, a theorem of request 14, from the promises that it calls. Assumes nothing.
use Rattle.chains.proofs.Ended.{last_ended}
use Rattle.chains.proofs.last_finished.Goals as goal

pub returns : goal.returns
returns c = let b = c.below.ensures in
    let enter = c.entered.ensures in
    let turn = c.entered_vsync.ensures in
    let rules = c.demand_2.ensures in
    let said = c.said.ensures in
    last_ended b enter turn rules said c.on_another_image.ensures
