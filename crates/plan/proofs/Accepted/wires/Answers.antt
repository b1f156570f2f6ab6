-- `plan::Accepted::wires` meets its contract. Assumes nothing.
use borrow.Author.Rules.{rules}
use Rattle.wiring.proofs.Fits.{wires_fit}
use Rattle.plan.proofs.Allowed.{in_range}
use Rattle.plan.proofs.Accepted.wires.Goals as goal

pub returns-clause-fit : goal.returns-clause-fit
returns-clause-fit c = let a = c.args.self in
    rw c.from.ensures (wires_fit a.request.wiring (in_range a (search rules)).wiring)
