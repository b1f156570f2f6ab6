-- `ratio::gcd` meets its contract: each round leaves the greatest common divisor, and a smaller sum. Assumes nothing.
use mathlib.Core.Path.{◌≡◌, refl, sym, ◌∙◌}
use Prim.Native.Nat.{◌%◌}
use native.Mathlib.Omega.{arith}
use Rattle.ratio.proofs.Halving.{turned, of_zero, halved, half_less}
use Rattle.ratio.proofs.gcd.Goals as goal
use Rattle.ratio.proofs.gcd.Goals.{then-b-eq0, else-b-eq0}

pub loop-x-init : goal.loop-x-init
loop-x-init c =
    let a = c.args in
    let p = c.requires in
    elim c.if-b-eq0.branch [
      | then-b-eq0 w ↦ rw w.x-is (omega (arith, w.if-b-eq0.true), turned a.b a.a)
      | else-b-eq0 w ↦ rw w.x-is (omega (arith, w.if-b-eq0.false), refl)
    ]

pub loop-x-preserved-then-x-eq0 : goal.loop-x-preserved-then-x-eq0
loop-x-preserved-then-x-eq0 c = let l = c.loop-x in
    (l.invariant.0, halved l.x l.y (omega arith) l.invariant.0 ∙ l.invariant.1)

pub loop-x-preserved-then-x-y : goal.loop-x-preserved-then-x-y
loop-x-preserved-then-x-y c = let l = c.loop-x in
    let odd : l.x % 2 ≡ 1 = omega arith in
    (odd, half_less l.y l.x (omega arith) l.invariant.0 odd ∙ turned l.y l.x ∙ l.invariant.1)

pub loop-x-preserved : goal.loop-x-preserved
loop-x-preserved c = let l = c.loop-x in
    (l.invariant.0, half_less l.x l.y (omega arith) (omega arith) l.invariant.0 ∙ l.invariant.1)

pub returns : goal.returns
returns c = let l = c.loop-x in
    let none : l.x ≡ 0 = omega arith in
    sym (of_zero l.y) ∙ rw none at l.invariant.1
