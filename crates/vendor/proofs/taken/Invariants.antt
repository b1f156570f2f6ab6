-- `vendor::taken` meets its contract. The loop's invariant: the rest of the list by the byte of the holds as it is then. Assumes nothing.
use Rattle.vendor.specs.Numbered.{writes_in}
use Rattle.vendor.proofs.Loops.{Counts}
use Rattle.vendor.proofs.taken.Given as goal

abbrev pub invariant-loop-i : goal.invariant-loop-i
invariant-loop-i l = Counts l.start (writes_in l.list) l.i l.held
