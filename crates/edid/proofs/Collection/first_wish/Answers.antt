-- `edid::Collection::first_wish` meets its contract: wish by wish. Assumes nothing.
use mathlib.Core.Path.{◌∙◌}
use borrow.Author.Rules.{rules}
use borrow.Author.Tests.{tests}
use Rattle.std.proofs.lemmas.Iterator.{YieldsList-from_slice}
use Rattle.std.proofs.lemmas.Iterator.Search.{position_from_yields_List}
use Rattle.edid.specs.Found.{is_fitting}
use Rattle.edid.proofs.Some.{passes, first_found}
use Rattle.edid.proofs.Collection.first_wish.Goals as goal

pub returns : goal.returns
returns c = let a = c.args in
    let test = is_fitting a.self.now.bytes.now a.template.now.request.now in
    position_from_yields_List (passes test) _ _ _ c.position.ensures.ran (YieldsList-from_slice _ (c.iter.ensures.rest ∙ c.as_chunks.ensures.front)) (λ x b q k. search (rules, tests))
    ∙ first_found test a.wishes.now
