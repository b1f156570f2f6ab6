-- `chains::below` has what the links rest on from the promises that it calls. Assumes nothing.
use Rattle.chains.proofs.below.Goals as goal

pub returns : goal.returns
returns c = record {
  turn = c.turn.ensures;
  one = c.at_most_one.ensures;
  runs = c.any_run.ensures;
  fair = c.fair_run.ensures;
  mended = c.mended_run.ensures;
  every = c.demand_3.ensures;
  vendors = c.vendors_lists.ensures;
}
