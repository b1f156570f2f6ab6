-- `plan::Accepted::avi_bytes` meets its contract. Assumes nothing.
use mathlib.Core.Path.{refl}
use borrow.Author.Rules.{rules}
use Rattle.plan.proofs.Allowed.{in_range}
use Rattle.plan.proofs.Frame.{avi_ok}
use Rattle.plan.proofs.Accepted.avi_bytes.Goals as goal

pub unwrap-requires : goal.unwrap-requires
unwrap-requires c = rw (avi_ok _ (in_range c.args.self (search rules)).video _ c.avi_of.ensures) refl

pub returns : goal.returns
returns c = let e = avi_ok _ (in_range c.args.self (search rules)).video _ c.avi_of.ensures in cc
