-- `views::entry::Slices::read` meets its contract. Assumes nothing.
use mathlib.Core.Path.{◌≡◌, refl, ap, ◌∙◌}
use Rattle.lists.specs.Over.{over}
use Rattle.chip.specs.declared.Chip.{Chip}
use Rattle.chip.specs.Write.{lent_as}
use Rattle.views.specs.Entry.{state_of}
use Rattle.views.specs.Lending.{lent_in}
use Rattle.views.proofs.Lent.{gathered_whole, state_sized}
use Rattle.views.proofs.entry.Slices.read.Goals as goal

pub returns : goal.returns
returns c = let l = lent_in c.args.self.now in
    gathered_whole (state_of l) _ (state_sized l c.requires.sized)
    (c.gather.ensures ∙ ap (λ (s : Chip). lent_as (over l.image s.image) (over l.packet s.packet) (over l.coefficients s.coefficients) (state_of l).waiting) c.requires.blank)
