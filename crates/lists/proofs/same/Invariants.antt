-- `lists::same` meets its contract: two lengths, or byte by byte. Assumes nothing.
use lib.ListN.{length}
use Rattle.lists.proofs.Compared.{Compared}
use Rattle.lists.proofs.same.Given as goal

abbrev pub invariant-loop-x : goal.invariant-loop-x
invariant-loop-x l = Compared l.a l.b (length l.yielded) l.all
