-- `vendor::Used::of` meets its contract. Assumes nothing.
use mathlib.Core.Path.{◌∙◌}
use lib.Dec.{lit<, lit≤}
use Rattle.vendor.proofs.Tested.{twelve_used}
use Rattle.vendor.proofs.Used.of.Goals as goal

pub array-requires : goal.array-requires
array-requires c = (lit< tt, c.packet_in_use.ensures.long (lit≤ tt))

pub array-requires-2 : goal.array-requires-2
array-requires-2 c = (lit< tt, c.packet_in_use-2.ensures.long (lit≤ tt))

pub returns : goal.returns
returns c = let m = c.matrix_in_use.ensures in
    λ i. record {
      avi = (c.array.ensures ∙ c.packet_in_use.ensures.in_use) i;
      audio = (c.array-2.ensures ∙ c.packet_in_use-2.ensures.in_use) i;
      matrix = twelve_used c.args.state.now m.in_use m.long c.twelve.ensures i;
    }
