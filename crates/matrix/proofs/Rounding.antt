-- `shr_z` rounds down, and `held_within` holds within 0 to 4095.
-- Assumes nothing.
use mathlib.Core.Path.{refl, ap}
use Prim.Native.Nat.{ℕ, zero, suc, ◌*◌, ◌/◌, ◌≤◌}
use native.Mathlib.Nat.{min-eq_left, min-eq_right, min-le_right}
use native.Mathlib.Omega.{arith}
use lib.IntN.{ℤ, pos, negsuc, suc_ℤ, ◌*ℤ◌, +ℤ_one}
use lib.Signed.{shr_z, ◌<ℤ◌, lt_z_yes}
use Rattle.matrix.specs.Preview.{held_within, RoundedDown, Clamped}
use Rattle.matrix.proofs.Order.{pos_le, of_pos_le, pos_lt, neg_le, lt_neg}

pub down : (z : ℤ) → RoundedDown z (shr_z z 4096)
down (pos a) = record { below = pos_le (omega arith); above = pos_lt (omega arith) }
down (negsuc a) = record { below = neg_le (suc (a / 4096) * 4096) a (omega arith); above = rw (+ℤ_one (negsuc (a / 4096))) (next (a / 4096) (omega arith)) }
  where
    next : (q : ℕ) → q * 4096 ≤ a → negsuc a <ℤ (suc_ℤ (negsuc q) *ℤ pos 4096)
    next zero h = lt_z_yes tt
    next (suc q) h = lt_neg a (suc q * 4096) h

pub holds : (z : ℤ) → Clamped z (held_within z)
holds (pos n) = record {
  high = min-le_right n 4095;
  inside = λ l h. ap pos (min-eq_left (of_pos_le h));
  under = λ h. let u : n ≤ 0 = of_pos_le h in omega arith;
  over = λ h. min-eq_right (of_pos_le h);
}
holds (negsuc n) = record {
  high = omega arith;
  inside = λ l h. absurd l.le;
  under = λ h. refl;
  over = λ h. absurd h.le;
}
