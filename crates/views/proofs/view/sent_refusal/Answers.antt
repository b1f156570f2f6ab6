-- `views::view::sent_refusal` meets its contract. Assumes nothing.
use mathlib.Core.Path.{sym, ◌∙◌}
use native.Mathlib.Omega.{arith}
use Rattle.views.proofs.Seen.{five, later}
use Rattle.views.proofs.view.sent_refusal.Goals as goal

pub returns-then-which-gt1 : goal.returns-then-which-gt1
returns-then-which-gt1 c = let a = c.args in sym (five a.image.now a.packet.now a.which (omega arith))

pub returns : goal.returns
returns c = let a = c.args in c.lent_refusal.ensures ∙ sym (later a.image.now a.packet.now a.which (omega arith))
