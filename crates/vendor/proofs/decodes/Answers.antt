-- `vendor::decodes` meets its contract. Assumes nothing.
use borrow.Author.Rules.{rules}
use mathlib.Core.Path.{ap, ◌∙◌}
use lib.Dec.{eqb, lit≤}
use Rattle.decode.specs.Numbered.{Decoded}
use Rattle.vendor.proofs.Verdicts.{answered, decoded}
use Rattle.vendor.proofs.decodes.Goals as goal

pub returns : goal.returns
returns c = c.is_ok.ensures.value ∙ answered _ ∙ ap (λ (r : Decoded). eqb r.refusal 0) c.decode.ensures.0 ∙ decoded _ _ (search rules) (lit≤ tt)
