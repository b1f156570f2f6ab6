-- `vendor::Ways::is_either` meets its contract. Assumes nothing.
use mathlib.Core.Path.{◌≡◌, sym, ap, ◌∙◌}
use mathlib.Core.Bool.{Bool, ◌||◌}
use mathlib.Core.List.{List}
use Prim.Native.Nat.{ℕ}
use lib.ListN.{length}
use Rattle.lists.specs.Same.{same_list}
use Rattle.matrix.specs.Matrix.{fields}
use Rattle.chip.specs.Machine.{matrix, registers_of}
use Rattle.vendor.proofs.Tested.{twelve_fields, matrix_long}
use borrow.Author.Rules.{rules}
use Rattle.vendor.proofs.Ways.is_either.Goals as goal

pub returns-then-same_numbers : goal.returns-then-same_numbers
returns-then-same_numbers c =
    let h : length c.args.image.now ≡ 256 = search rules in
    let e = twelve_fields (registers_of matrix c.args.image.now) (matrix_long c.args.image.now h) (rw c.registers.ensures at c.twelve-twelve.ensures) in
    let w = c.args.self.now in
    let a = c.same_numbers.ensures ∙ ap (λ (l : List ℕ). same_list l w.old.matrix) e in
    c.if-same_numbers.true
    ∙ ap (λ (b : Bool). b || same_list (fields (registers_of matrix c.args.image.now)) w.new.matrix) (sym c.if-same_numbers.true ∙ a)

pub returns-else-same_numbers : goal.returns-else-same_numbers
returns-else-same_numbers c =
    let h : length c.args.image.now ≡ 256 = search rules in
    let e = twelve_fields (registers_of matrix c.args.image.now) (matrix_long c.args.image.now h) (rw c.registers.ensures at c.twelve-twelve.ensures) in
    let w = c.args.self.now in
    let a = c.same_numbers.ensures ∙ ap (λ (l : List ℕ). same_list l w.old.matrix) e in
    c.same_numbers-else-same_numbers.ensures ∙ ap (λ (l : List ℕ). same_list l w.new.matrix) e
    ∙ ap (λ (b : Bool). b || same_list (fields (registers_of matrix c.args.image.now)) w.new.matrix) (sym c.if-same_numbers.false ∙ a)
