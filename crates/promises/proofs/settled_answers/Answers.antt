-- `promises::settled_answers` meets its contract, by the numbers of refusals. Assumes nothing.
use Rattle.promises.proofs.OneAnswer.{settled_answers}
use Rattle.promises.proofs.settled_answers.Goals as goal

pub returns : goal.returns
returns c = settled_answers c.told_apart.ensures
