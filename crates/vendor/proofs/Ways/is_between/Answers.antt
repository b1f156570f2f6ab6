-- `vendor::Ways::is_between` meets its contract. Assumes nothing.
use mathlib.Core.Path.{ap, ◌∙◌}
use mathlib.Core.Bool.{not}
use Rattle.vendor.specs.Found.{shown, is_between}
use Rattle.vendor.proofs.Tested.{passed, still}
use Rattle.vendor.proofs.Ways.is_between.Goals as goal

pub returns-then-is_still : goal.returns-then-is_still
unfolding is_between
returns-then-is_still c =
    let w = c.args.self.now in
    let p = c.args.pair.now in
    c.if-is_still.true
    ∙ still (shown w.old) (shown w.new) p.address p.held p.state.now.image p.state.now.waiting c.is_still.ensures c.if-is_still.true
    ∙ passed _ c.is_muted.ensures (ap not c.if-is_muted.true)
