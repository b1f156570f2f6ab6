-- `plan::refusals_of_a_plan` meets its contract, which is the theorem. Assumes nothing.
use Rattle.plan.proofs.Ordered.{refusals}
use Rattle.plan.proofs.refusals_of_a_plan.Goals as goal

pub returns : goal.returns
returns c = refusals
