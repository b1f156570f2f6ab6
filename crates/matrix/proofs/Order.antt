-- The order of ℤ by that of ℕ, at numbers of one sign.
-- Assumes nothing.
use Prim.Native.Nat.{ℕ, zero, suc, ◌<◌, ◌≤◌}
use native.Mathlib.Nat.{not-suc-le-zero, le_of_suc-le-suc}
use lib.Dec.{le→leb, lt→ltb, leb→le}
use lib.IntN.{pos, negsuc, neg_ℤ}
use lib.Signed.{◌≤ℤ◌, ◌<ℤ◌, le_z_yes, lt_z_yes}

module _ {m n : ℕ} where
  pub pos_le : m ≤ n → pos m ≤ℤ pos n
  pos_le h = le_z_yes (le→leb m n h)

  pub of_pos_le : pos m ≤ℤ pos n → m ≤ n
  of_pos_le h = leb→le m n h.le

  pub negsuc_le : n ≤ m → negsuc m ≤ℤ negsuc n
  negsuc_le h = le_z_yes (le→leb n m h)

  pub of_negsuc_le : negsuc m ≤ℤ negsuc n → n ≤ m
  of_negsuc_le h = leb→le n m h.le

  pub pos_lt : m < n → pos m <ℤ pos n
  pos_lt h = lt_z_yes (lt→ltb m n h)

pub neg_le : (n a : ℕ) → suc a ≤ n → neg_ℤ (pos n) ≤ℤ negsuc a
neg_le zero a h = absurd (not-suc-le-zero h)
neg_le (suc n) a h = negsuc_le (le_of_suc-le-suc h)

pub lt_neg : (a n : ℕ) → n ≤ a → negsuc a <ℤ neg_ℤ (pos n)
lt_neg a zero h = lt_z_yes tt
lt_neg a (suc n) h = lt_z_yes (lt→ltb n a h)
