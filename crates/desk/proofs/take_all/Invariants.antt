-- `desk::take_all` meets its contract: each turn that goes on leaves more bytes in the pipe, so that the loop ends. Assumes nothing.
use mathlib.Core.Path.{◌≡◌}
use Prim.Native.Nat.{◌-◌}
use lib.ListN.{length}
use Rattle.request.specs.Sections.{longest}
use Rattle.pipe.specs.Bytes.{count_in}
use Rattle.desk.proofs.Turned.{Reading}
use Rattle.desk.proofs.take_all.Given as goal

abbrev pub invariant-loop : goal.invariant-loop
invariant-loop l = (length l.pipe ≡ length l.initial.pipe) × Reading l.pipe

abbrev pub decreases-loop : goal.decreases-loop
decreases-loop l = longest - count_in l.pipe
