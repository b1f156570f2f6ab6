-- `matrix::Matrix::body` meets its contract: before turn i the bytes of the first i coefficients are stored. Assumes nothing.
use mathlib.Core.Path.{◌≡◌}
use mathlib.Core.List.{map}
use lib.ListN.{length, take}
use lib.Seq.{sets}
use Rattle.matrix.specs.Coefficient.{low_thirteen, coefficient_bytes}
use Rattle.matrix.proofs.Matrix.body.Given as goal

abbrev pub invariant-loop-i : goal.invariant-loop-i
invariant-loop-i l = (length l.self.coefficients ≡ 12) × (l.out ≡ sets l.initial.out 1 (coefficient_bytes (take l.i (map low_thirteen l.self.coefficients))))
