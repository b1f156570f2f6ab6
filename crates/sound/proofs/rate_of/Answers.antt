-- `sound::rate_of` meets its contract: the place of the first row of the code. Assumes nothing.
use lib.Dec.{eqb}
use borrow.Author.Rules.{rules}
use Rattle.std.proofs.Common.{tests}
use Rattle.std.proofs.lemmas.Iterator.{YieldsList-from_slice}
use Rattle.std.proofs.lemmas.Iterator.Search.{position_from_yields_List}
use Rattle.sound.specs.declared.Rate.{Rate}
use Rattle.sound.proofs.Rates.{searched}
use Rattle.sound.proofs.rate_of.Goals as goal

pub returns : goal.returns
returns c =
    let place = searched c.args.code c.position-place.result
    (position_from_yields_List (λ (r : Rate). eqb r.code c.args.code) _ _ c.position-place.result c.position-place.ensures.ran
    (YieldsList-from_slice _ c.iter.ensures.rest) (λ x b q k. search (rules, tests))) in
    search (rules, place)
