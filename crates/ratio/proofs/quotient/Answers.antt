-- `ratio::quotient` meets its contract: b is doubled up to a, and down again what is left is less than what was tried. Assumes nothing.
use mathlib.Core.Path.{refl, sym, ap, ◌∙◌}
use Prim.Native.Nat.{ℕ, suc, ◌*◌}
use native.Mathlib.Nat.{pos_of_ne-zero}
use native.Mathlib.Omega.{arith}
use Rattle.ratio.proofs.Sizes.{twice, Next, next, last}
use Rattle.ratio.proofs.quotient.Goals as goal
use Rattle.ratio.proofs.quotient.Goals.{then-part-left, else-part-left, In-loop-part-2}

pub loop-part-preserved : goal.loop-part-preserved
loop-part-preserved c = let l = c.loop-part in
    let n : ℕ = l.invariant.1.0 in
    (omega arith, (suc n, ap (λ (x : ℕ). 2 * x) l.invariant.1.1 ∙ sym (twice c.args.b n)))

pub loop-part-2-init : goal.loop-part-2-init
loop-part-2-init c = let l = c.loop-part in
    let n : ℕ = l.invariant.1.0 in
    let e = twice c.args.b n in
    let p = l.invariant.1.1 in
    record { n = suc n; whole = 2 * l.part; size = omega arith; half = omega arith; all = omega arith; less = omega arith }

step : (c : In-loop-part-2) → let a = c.args in let l = c.loop-part-2 in Next a.a a.b l.part l.left l.q
step c =
    let l = c.loop-part-2 in
    next c.args.a c.args.b l.part l.left l.q (pos_of_ne-zero c.if-b-eq0.false) (omega arith) l.invariant

pub loop-part-2-preserved : goal.loop-part-2-preserved
loop-part-2-preserved c = let s = step (goal.at.loop-part-2-preserved c).In-loop-part-2 in
    let part : ℕ = c.loop-part-2.part in
    elim c.if-part-left.branch [
      | then-part-left w ↦ rw (w.left-is, w.q-is) (record { n = s.m; whole = part; size = s.size; half = refl; all = omega arith; less = omega arith })
      | else-part-left w ↦ rw (w.left-is, w.q-is) (record { n = s.m; whole = part; size = s.size; half = refl; all = s.all; less = omega arith })
    ]

pub returns : goal.returns
returns c = let l = c.loop-part-2 in
    last c.args.a c.args.b l.part l.left l.q (pos_of_ne-zero c.if-b-eq0.false) (omega arith) l.invariant
