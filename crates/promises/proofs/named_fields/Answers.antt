-- `promises::named_fields` meets its contract, by one test over all 256 addresses. Assumes nothing.
use mathlib.Core.Path.{refl}
use lib.Dec.{eqb}
use borrow.Author.Tests.{eqb-true}
use Rattle.bits.proofs.Below.{at_below}
use Rattle.registers.specs.Classes.{class_at, named}
use Rattle.plan.specs.Places.{places}
use Rattle.promises.specs.Finished.{mask_at}
use Rattle.promises.proofs.named_fields.Goals as goal

pub returns : goal.returns
unfolding class_at
returns c r p a h = eqb-true _ _ (at_below (λ a. eqb (mask_at a (places r p)) (named a)) 256 a refl h)
