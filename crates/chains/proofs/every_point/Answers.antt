-- `chains::every_point` meets its contract, a theorem of request 14, from the promises that it calls. Assumes nothing.
use Rattle.chains.proofs.Points.{point, reached}
use Rattle.chains.proofs.every_point.Goals as goal

pub returns : goal.returns
returns c = let b = c.below.ensures in
    let enter = c.entered.ensures in
    let turn = c.entered_vsync.ensures in
    let vet = c.vetted.ensures in
    let another = c.on_another_image.ensures in
    λ ls s k. (point b enter turn vet another ls s k, reached b enter turn vet another ls s k)
