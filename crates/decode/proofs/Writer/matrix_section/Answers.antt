-- `decode::Writer::matrix_section` meets its contract. Assumes nothing.
use mathlib.Core.Path.{ap, ◌∙◌}
use mathlib.Core.List.{List, ◌∷◌}
use Prim.Native.Nat.{ℕ}
use borrow.Author.Tests.{ne_eqb}
use Rattle.matrix.specs.Coefficient.{coefficient_bytes}
use Rattle.matrix.proofs.Body.{unmoved}
use Rattle.decode.proofs.Writer.matrix_section.Goals as goal

pub returns-else-matrix-eq0 : goal.returns-else-matrix-eq0
returns-else-matrix-eq0 c = let m = c.args.matrix in
    let body = c.body.ensures ∙ ap (λ (cs : List ℕ). m.mode ∷ coefficient_bytes cs) (unmoved m.coefficients c.requires.small) in
    simp (ne_eqb _ _ c.if-matrix-eq0.false) (rw body at c.section-else-matrix-eq0.ensures)
