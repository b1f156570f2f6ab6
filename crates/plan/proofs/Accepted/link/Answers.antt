-- `plan::Accepted::link` meets its contract. Assumes nothing.
use mathlib.Core.Path.{refl}
use borrow.Author.Rules.{rules}
use Rattle.video.proofs.Fits.{link_fits}
use Rattle.plan.proofs.Allowed.{in_range}
use Rattle.plan.proofs.Accepted.link.Goals as goal

pub returns : goal.returns
returns c = let a = c.args.self in (refl, link_fits a.request.video (in_range a (search rules)).video)
