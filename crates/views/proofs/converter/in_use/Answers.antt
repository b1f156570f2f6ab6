-- `views::converter::in_use` meets its contract. Assumes nothing.
use mathlib.Core.Path.{refl, ap, ◌∙◌}
use mathlib.Core.Bool.{Bool, cond}
use lib.ListN.{take}
use Rattle.chip.specs.Machine.{matrix, registers_of, in_use}
use Rattle.views.proofs.converter.in_use.Goals as goal
use Rattle.views.proofs.converter.in_use.Goals.{then-waits, else-waits}

pub returns : goal.returns
unfolding in_use
returns c = let a = c.args in
    c.in_use.ensures
    ∙ ap (λ (b : Bool). cond b (take 24 a.coefficients.now) (registers_of matrix a.image.now)) (elim c.if-waits.branch [
      | then-waits w ↦ rw (w.is_buffered-is, w.if-waits.true) refl
      | else-waits w ↦ rw (w.is_buffered-is, w.if-waits.false) w.is_held-is_buffered.ensures
    ])
