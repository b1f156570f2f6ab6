-- `plan::Accepted::csc_bytes` meets its contract. Assumes nothing.
use mathlib.Core.Path.{◌≡◌, ap}
use mathlib.Core.List.{List}
use Prim.Native.Nat.{ℕ, ◌+◌, ◌*◌, ◌/◌}
use native.Mathlib.Omega.{arith}
use lib.ListN.{get_or}
use borrow.Author.Rules.{rules}
use Rattle.matrix.specs.declared.Matrix.{Matrix}
use Rattle.request.proofs.Fits.{on_small, coefficients_small}
use Rattle.plan.proofs.Allowed.{in_range}
use Rattle.plan.proofs.Made.{matrix-made}
use Rattle.plan.proofs.Accepted.csc_bytes.Goals as goal

pub halves-out-requires : goal.halves-out-requires
halves-out-requires c = coefficients_small _ (in_range c.args.self (search rules)).matrix

pub overflow_mul-out : goal.overflow_mul-out
overflow_mul-out c = let f = in_range c.args.self (search rules) in
    let o = on_small _ f.matrix in search rules

pub overflow_mul-out-2 : goal.overflow_mul-out-2
overflow_mul-out-2 c = let m = (in_range c.args.self (search rules)).mode in search rules

pub overflow_add-out : goal.overflow_add-out
overflow_add-out c = let f = in_range c.args.self (search rules) in
    let o = on_small _ f.matrix in
    let m = f.mode in search rules

pub overflow_add-out-2 : goal.overflow_add-out-2
overflow_add-out-2 c = let f = in_range c.args.self (search rules) in
    omega (arith, ap (λ (l : List ℕ). get_or l 0 0) c.halves-out.ensures, on_small _ f.matrix, f.mode, coefficients_small _ f.matrix 0)

pub returns : goal.returns
returns c p = let r = c.args.self.request in
    let m : Matrix = r.matrix in
    let first : ℕ = get_or m.coefficients 0 0 / 256 in
    let beside : first + (m.on * 128 + m.mode * 32) ≡ m.on * 128 + m.mode * 32 + first = omega arith in
    rw (c.halves-out.ensures, beside) (matrix-made r p)
