-- `vendor::Run::ending` meets its contract. The loop's invariant: the rest of what is taken, from the state as it is then. Assumes nothing.
use mathlib.Core.Path.{◌≡◌}
use lib.ListN.{length}
use Rattle.vendor.specs.Numbered.{writes_in}
use Rattle.vendor.proofs.Loops.{Ends}
use Rattle.vendor.proofs.Run.ending.Given as goal

abbrev pub invariant-loop-i : goal.invariant-loop-i
invariant-loop-i l = record { whole : length l.state.image ≡ 256; left : Ends (writes_in l.pairs) l.self.start.now l.i l.state }
