-- `plan::Wanted::laid` meets its contract. Assumes nothing.
use mathlib.Core.Path.{◌≡◌, refl, sym, ◌∙◌}
use lib.ListN.{length}
use borrow.Author.Rules.{rules}
use Rattle.plan.proofs.Stored.{body_laid, stores_laid}
use Rattle.plan.proofs.Wanted.laid.Goals as goal

pub returns : goal.returns
returns c = let a = c.args in
    let sized : length a.self.now.bytes ≡ 256 = search rules in
    rw c.copy.ensures (body_laid a.self.now.bytes a.bytes.now a.at _ (rw sized refl) (rw sized c.requires))
    ∙ sym (stores_laid a.bytes.now a.self.now.bytes a.at)
