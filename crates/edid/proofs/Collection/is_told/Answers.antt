-- `edid::Collection::is_told` meets its contract. Assumes nothing.
use Rattle.std.proofs.Common.{rules}
use Rattle.edid.specs.Screen.{data_blocks, tells_in}
use Rattle.edid.proofs.Cut.{of_whole}
use Rattle.edid.proofs.Collection.is_told.Goals as goal

pub returns : goal.returns
returns c = let a = c.args in
    let e = of_whole (tells_in a.ask) (data_blocks a.self.now.bytes.now) _ a.self.now.whole (c.any_block.ensures (tells_in a.ask) (λ tag body r k. search rules)) in
    search rules
