-- `meter::field` meets its contract. Assumes nothing.
use mathlib.Core.Path.{sym, ap, ◌∙◌}
use mathlib.Core.Bool.{Bool}
use Prim.Native.Nat.{ℕ, ◌+◌, ◌*◌, ◌^◌, ◌≤◌}
use native.Mathlib.Omega.{arith}
use lib.Ieee.Nearest.{closest}
use lib.Ieee.Positive.{num, den}
use Rattle.meter.specs.Found.{field_of, signed_field, as_field, negative}
use Rattle.meter.proofs.Scaled.{sign, near, far, too_large, leads}
use Rattle.meter.proofs.field.Goals as goal

pub returns-then-unit-k : goal.returns-then-unit-k
unfolding field_of
returns-then-unit-k c = let args = c.args in
    let p = c.taken_apart-p.result in
    let e = c.taken_apart-p.ensures in
    ap as_field (too_large (negative args.x) (closest (num args.x * 2 ^ args.raised) (den args.x * 2 ^ args.mode))
    (far args.x p.negative p.digits p.exponent args.raised args.mode e.has_value
    (leads p.digits p.exponent args.raised args.mode e.normal c.requires.raised_bound.0 (rw c.from-unit.ensures at c.if-unit-k.true)) (rw c.from-unit.ensures at c.if-unit-k.true)))

pub returns : goal.returns
unfolding field_of
returns c = let args = c.args in
    let p = c.taken_apart-p.result in
    let v = c.taken_apart-p.ensures.has_value in
    c.signed_field.ensures
    ∙ ap as_field (ap (λ (n : ℕ). signed_field p.negative n)
    (rw c.from-unit.ensures at c.nearest-size.ensures ∙ sym (near args.x p.negative p.digits p.exponent args.raised args.mode v (room (rw c.from-unit.ensures at c.if-unit-k.false))))
    ∙ ap (λ (s : Bool). signed_field s (closest (num args.x * 2 ^ args.raised) (den args.x * 2 ^ args.mode))) (sym (sign args.x p.negative (p.digits * 2 ^ p.exponent) (2 ^ 149) v)))
  where
    room : {k u : ℕ} → k + 11 ≤ u → k ≤ u
    room h = omega arith
