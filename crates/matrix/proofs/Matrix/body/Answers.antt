-- `matrix::Matrix::body` meets its contract: before turn i the bytes of the first i coefficients are stored. Assumes nothing.
use mathlib.Core.Path.{◌≡◌, sym, ap, ◌∙◌}
use mathlib.Core.List.{map}
use Prim.Native.Nat.{ℕ, ◌%◌}
use native.Mathlib.Omega.{arith}
use lib.ListN.{length-map}
use borrow.Author.Rules.{rules}
use Rattle.lists.proofs.Emit.{map_at}
use Rattle.matrix.specs.Coefficient.{low_thirteen, high_byte}
use Rattle.matrix.proofs.Body.{turn_bytes}
use Rattle.matrix.proofs.Matrix.body.Goals as goal

pub loop-i-preserved : goal.loop-i-preserved
loop-i-preserved c =
    let l = c.loop-i in
    let cs = c.args.self.coefficients in
    let at = map_at low_thirteen cs l.i 0 0 (search rules) in (
      search rules,
      rw l.invariant.1
          (turn_bytes (map low_thirteen cs) _ 1 l.i _ _ _ _ (rw (length-map cs low_thirteen) (search rules)) (omega arith) (omega arith)
          (c.high_byte.ensures ∙ ap high_byte (sym at)) (low _ ∙ ap (λ (n : ℕ). n % 256) (sym at))),
    )
  where
    low : (n : ℕ) → n % 256 ≡ n % 8192 % 256
    low n = omega arith
