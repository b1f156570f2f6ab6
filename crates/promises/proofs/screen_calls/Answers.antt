-- `promises::screen_calls` meets its contract: `edid` by its promises. Assumes nothing.
use Rattle.promises.proofs.Screens.{screen_calls}
use Rattle.promises.proofs.screen_calls.Goals as goal

pub returns : goal.returns
returns c = screen_calls c.overview_rule.ensures c.choices.ensures
