-- `request::sections::walk` meets its contract: the loop over the sections, turn by turn. Assumes nothing.
use mathlib.Core.Path.{◌≡◌}
use Prim.Native.Nat.{◌≤◌}
use lib.ListN.{length}
use Rattle.request.proofs.Turns.{Turned}
use Rattle.request.proofs.sections.walk.Given as goal

abbrev pub invariant-loop-k : goal.invariant-loop-k
invariant-loop-k l = record { sized : length l.end-items ≡ 4; placed : l.place ≤ length l.s; turned : Turned l.s l.end-items l.place l.k }
