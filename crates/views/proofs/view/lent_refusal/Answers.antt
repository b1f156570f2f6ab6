-- `views::view::lent_refusal` meets its contract. Assumes nothing.
use Rattle.std.proofs.lemmas.Grind.{common_steps}
use native.Mathlib.Omega.{arith}
use Rattle.views.specs.View.{lent_refusal}
use Rattle.views.proofs.view.lent_refusal.Goals as goal

pub returns-then-packet-ne32 : goal.returns-then-packet-ne32
unfolding lent_refusal
returns-then-packet-ne32 c = grind (arith, common_steps)

pub returns-then-two_up : goal.returns-then-two_up
unfolding lent_refusal
returns-then-two_up c = grind (arith, common_steps, c.two_up.ensures)

pub returns-else-two_up : goal.returns-else-two_up
unfolding lent_refusal
returns-else-two_up c = grind (arith, common_steps, c.two_up.ensures)
