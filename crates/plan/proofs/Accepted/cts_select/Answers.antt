-- `plan::Accepted::cts_select` meets its contract. Assumes nothing.
use borrow.Author.Rules.{rules}
use Rattle.plan.proofs.Allowed.{in_range}
use Rattle.plan.proofs.Accepted.cts_select.Goals as goal

pub returns-in-On : goal.returns-in-On
returns-in-On c = let f = rw c.in-On.is at (in_range c.args.self (search rules)).sound in search rules
