-- `views::converter::store_matrix` meets its contract. Assumes nothing.
use mathlib.Core.Path.{ap, ◌∙◌}
use mathlib.Core.List.{List}
use Prim.Native.Nat.{ℕ}
use Rattle.lists.specs.Over.{over}
use Rattle.matrix.specs.declared.Matrix.{Matrix}
use Rattle.matrix.specs.Body.{body_of}
use Rattle.views.proofs.Used.{as_sent}
use Rattle.views.proofs.converter.store_matrix.Goals as goal

pub returns : goal.returns
returns c = c.copy.ensures
    ∙ ap (λ (l : List ℕ). over l c.args.out.now)
    (c.body.ensures ∙ ap (λ (l : List ℕ). body_of (made c.args.mode l)) c.twelve.ensures ∙ as_sent c.args.mode c.args.bytes.now c.requires)
  where
    made : ℕ → List ℕ → Matrix
    made mode l = record { on = 1; mode = mode; coefficients = l }
