-- `desk::print` meets its contract: the count of an accepted request is within the pipe. Assumes nothing.
use mathlib.Core.Path.{◌≡◌, sym, ap}
use Prim.Native.Nat.{◌≤◌}
use native.Mathlib.Omega.{arith}
use lib.ListN.{length}
use lib.Seq.{length-take-le}
use borrow.Author.Rules.{rules}
use Rattle.pipe.specs.Numbered.{Piped}
use Rattle.pipe.proofs.Grows.{end_within}
use Rattle.desk.proofs.print.Goals as goal
use Rattle.desk.proofs.print.Goals.{After-from}

within : (c : After-from) → c.from.result ≤ length c.end.new.pipe
within c =
    let l : length c.end.new.pipe ≡ length c.args.pipe.now = search rules in
    let n = ap (λ (p : Piped). p.count) c.in-Accepted.ensures.ends.0 in
    omega (arith, end_within c.args.pipe.now, n, c.from.ensures, l, c.requires)

pub slice_bounds-print_answer-end-in-Accepted : goal.slice_bounds-print_answer-end-in-Accepted
slice_bounds-print_answer-end-in-Accepted c = within (goal.at.slice_bounds-print_answer-end-in-Accepted c).After-from

pub slice_bounds-print_answer-end-in-Accepted-2 : goal.slice_bounds-print_answer-end-in-Accepted-2
slice_bounds-print_answer-end-in-Accepted-2 c = sym (length-take-le _ _ (within (goal.at.slice_bounds-print_answer-end-in-Accepted-2 c).After-from))
