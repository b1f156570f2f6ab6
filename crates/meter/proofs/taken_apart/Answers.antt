-- `meter::taken_apart` meets its contract. Assumes nothing.
use mathlib.Core.Path.{◌≡◌, sym, subst}
use mathlib.Core.Bool.{Bool, not}
use Prim.Native.Nat.{ℕ, suc, ◌-◌, ◌/◌, ◌%◌}
use native.Mathlib.Omega.{arith}
use lib.Dec.{T}
use lib.Ieee.{binary32, fits, to_bits}
use Rattle.meter.proofs.Apart.{least, normal, no_nan}
use Rattle.meter.proofs.taken_apart.Goals as goal
use Rattle.meter.proofs.taken_apart.Goals.{Start}

held : (c : Start) → T (fits binary32 c.args.x)
held c = subst T (sym c.well_formed.0.1) tt

pub float_to_bits-x : goal.float_to_bits-x
float_to_bits-x c = subst (λ (b : Bool). T (not b)) (sym (no_nan c.args.x c.requires)) tt

next : (k : ℕ) → (k ≡ 0 → ⊥) → k ≡ suc (k - 1)
next k h = omega arith

pub returns-then-field-eq0-clause-has_value : goal.returns-then-field-eq0-clause-has_value
returns-then-field-eq0-clause-has_value c =
    rw c.from-bits.ensures (least c.args.x (held (goal.at.returns-then-field-eq0-clause-has_value c).Start) c.requires (rw c.from-bits.ensures at c.if-field-eq0.true))

pub returns-else-field-eq0-clause-has_value : goal.returns-else-field-eq0-clause-has_value
returns-else-field-eq0-clause-has_value c =
    let x = c.args.x in
    let b = to_bits binary32 x in
    rw c.from-bits.ensures (normal x (held (goal.at.returns-else-field-eq0-clause-has_value c).Start) c.requires (b % 2147483648 / 8388608 - 1) (next (b % 2147483648 / 8388608) (rw c.from-bits.ensures at c.if-field-eq0.false)))
