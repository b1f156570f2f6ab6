-- `matrix::Matrix::in_range` meets its contract. Assumes nothing.
use Rattle.std.proofs.Common.{◌≡◌, ℕ, Bool, true, false, ◌&&◌, List, [], ◌∷◌, eqb, refl, sym, ap, ◌∙◌}
use lib.Pointwise.{pointwise}
use Rattle.lists.specs.Same.{same_list}
use Rattle.matrix.specs.Matrix.{no_matrix}
use Rattle.matrix.specs.Tests.{matrix_in_range}
use Rattle.matrix.proofs.Matrix.in_range.Goals as goal
use Rattle.matrix.proofs.Matrix.in_range.Goals.{After-eq}

same_numbers : (xs ys : List ℕ) → pointwise eqb xs ys ≡ same_list xs ys
same_numbers [] [] = refl
same_numbers [] (y ∷ ys) = refl
same_numbers (x ∷ xs) [] = refl
same_numbers (x ∷ xs) (y ∷ ys) = ap (λ b. eqb x y && b) (same_numbers xs ys)

and_assoc : (a b c : Bool) → (a && (b && c)) ≡ (a && b && c)
and_assoc true b c = refl
and_assoc false b c = refl

off : (c : After-eq) → c.eq.result ≡ (eqb c.args.self.on 0 && eqb c.args.self.mode 1 && same_list c.args.self.coefficients no_matrix.coefficients)
off c =
    let m = c.args.self in
    let same = same_list m.coefficients no_matrix.coefficients in
    c.eq.ensures ∙ rw (c.none.ensures, same_numbers m.coefficients no_matrix.coefficients) (and_assoc (eqb m.on 0) (eqb m.mode 1) same)

pub returns-then-eq : goal.returns-then-eq
unfolding matrix_in_range
returns-then-eq c = simp (c.if-eq.true, sym (off (goal.at.returns-then-eq c).After-eq) ∙ c.if-eq.true)

pub returns-else-eq : goal.returns-else-eq
unfolding matrix_in_range
returns-else-eq c = simp (sym (off (goal.at.returns-else-eq c).After-eq) ∙ c.if-eq.false, c.is_on.ensures)
