-- `plan::Wanted::with_matrix` meets its contract. Assumes nothing.
use Rattle.plan.proofs.Wanted.with_matrix.Goals as goal

pub returns : goal.returns
returns c p = rw (c.csc_bytes.ensures p) at c.laid.ensures
