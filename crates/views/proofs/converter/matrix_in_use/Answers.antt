-- `views::converter::matrix_in_use` meets its contract, return by return. Assumes nothing.
use mathlib.Core.Path.{◌≡◌, ap, ◌∙◌}
use mathlib.Core.Logic.{◌≢◌}
use mathlib.Core.List.{List}
use Prim.Native.Nat.{ℕ}
use native.Mathlib.Omega.{arith}
use lib.ListN.{length}
use borrow.Author.Rules.{rules}
use Rattle.std.proofs.lemmas.Grind.{common_steps}
use Rattle.chip.specs.Machine.{matrix, converter, in_use}
use Rattle.views.specs.Numbered.{count_told}
use Rattle.views.specs.Converter.{asked_of, no_count}
use Rattle.views.proofs.Used.{seven, seven_too, ten, refused, twenty_four, written}
use Rattle.views.proofs.converter.matrix_in_use.Goals as goal
use Rattle.views.proofs.converter.matrix_in_use.Goals.{After-in_use}

-- past the first two tests both slices have their lengths, and these are the bytes in use
module _ (c : After-in_use) where
  image_long : length c.args.image.now ≡ 256
  image_long = search rules

  buffer_long : length c.args.coefficients.now ≡ 24
  buffer_long = search rules

  same : c.in_ok-image.image.now ≡ c.args.image.now
  same = search rules

  bytes : c.in_use.result.now ≡ in_use converter matrix (asked_of c.args.image.now c.args.coefficients.now c.args.mark)
  bytes =
      let k : c.in_ok-coefficients.coefficients.now ≡ c.args.coefficients.now = search rules in
      rw (same, k) at c.in_use.ensures

pub returns-in_err-image : goal.returns-in_err-image
returns-in_err-image c = let a = c.args in
    let n : length a.image.now ≢ 256 = grind (arith, common_steps) in
    let r : count_told c.from_residual.result ≡ no_count 7 = grind (arith, common_steps) in
    let t = refused a.image.now a.coefficients.now a.mark a.out.now 7 (omega arith) (seven _ _ a.mark a.out.now n) in
    (r ∙ t.0, t.1)

pub returns-in_err-coefficients : goal.returns-in_err-coefficients
returns-in_err-coefficients c = let a = c.args in
    let i : length a.image.now ≡ 256 = search rules in
    let n : length a.coefficients.now ≢ 24 = grind (arith, common_steps) in
    let r : count_told c.from_residual-in_err-coefficients.result ≡ no_count 7 = grind (arith, common_steps) in
    let t = refused a.image.now a.coefficients.now a.mark a.out.now 7 (omega arith) (seven_too _ _ a.mark a.out.now i n) in
    (r ∙ t.0, t.1)

pub returns-then-out-lt25 : goal.returns-then-out-lt25
returns-then-out-lt25 c = let a = c.args in
    let i : length a.image.now ≡ 256 = search rules in
    let k : length a.coefficients.now ≡ 24 = search rules in
    refused a.image.now a.coefficients.now a.mark a.out.now 10 (omega arith) (ten _ _ a.mark a.out.now i k c.if-out-lt25.true)

pub store_matrix-requires : goal.store_matrix-requires
store_matrix-requires c = let a = c.args in
    let e = (goal.at.store_matrix-requires c).After-in_use in
    ap (λ (l : List ℕ). length l) (bytes e) ∙ twenty_four a.image.now a.coefficients.now a.mark a.out.now (image_long e) (buffer_long e)

pub returns : goal.returns
returns c = let a = c.args in
    let e = (goal.at.returns c).After-in_use in
    written a.image.now a.coefficients.now a.mark a.out.now (image_long e) (buffer_long e) _ (bytes e) (omega arith) (rw (same e) at c.store_matrix.ensures)
