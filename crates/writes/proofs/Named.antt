-- A field of the finished image, for any wanted bytes: its bits are the wanted ones, or those that the register's last step leaves.
-- Assumes nothing.
use mathlib.Core.Path.{◌≡◌, sym, ap, ◌∙◌}
use mathlib.Core.Bool.{Bool, true, false, cond, ◌&&◌}
use mathlib.Core.List.{List}
use Prim.Native.Nat.{ℕ, ◌+◌, ◌/◌, ◌%◌, ◌^◌, ◌<◌, ◌≤◌}
use native.Mathlib.Omega.{arith}
use lib.Dec.{eqb, ltb, leb}
use lib.ListN.{get_or}
use borrow.Author.Tests.{eqb-true, ltb-true, leb-true}
use Rattle.lists.proofs.Both.{both_left, both_right}
use Rattle.bits.specs.Merge.{merge, bit, under}
use Rattle.bits.proofs.Below.{below, at_below}
use Rattle.bits.proofs.Laws.{merge_bit, merge_small}
use Rattle.bits.proofs.Fields.{field_same}
use Rattle.registers.specs.Classes.{mandated, named, bits}
use Rattle.writes.specs.List.{decided, byte, written, is_written, left_up, finished}
use Rattle.writes.specs.Carried.{Carrying}
use Rattle.writes.proofs.Carries.{masked, carried}

-- what is computed of a field, count bits from `low` on: a written register, the bits named, and either none or all of them a step's
abbrev ours : Bool → ℕ → ℕ → ℕ → Bool
ours stepped a low j = eqb (bit (j + low) (named a)) 1 && eqb (bit (j + low) (decided a)) (cond stepped 1 0)

abbrev pub is_field : Bool → ℕ → ℕ → ℕ → Bool
is_field stepped a low count = (ltb a 256 && is_written a) && leb (count + low) 8 && below (ours stepped a low) count

-- its parts
module _ (stepped : Bool) (a low count : ℕ) (t : is_field stepped a low count ≡ true) where
  front : ((ltb a 256 && is_written a) && leb (count + low) 8) ≡ true
  front = both_left _ (below (ours stepped a low) count) t

  there : (ltb a 256 && is_written a) ≡ true
  there = both_left _ (leb (count + low) 8) front

  pub small_address : a < 256
  small_address = ltb-true _ _ (both_left _ (is_written a) there)

  pub is_written_lem : is_written a ≡ true
  is_written_lem = both_right (ltb a 256) _ there

  within : count + low ≤ 8
  within = leb-true _ _ (both_right (ltb a 256 && is_written a) _ front)

  each : (j : ℕ) → j < count → (bit (j + low) (named a) ≡ 1) × (bit (j + low) (decided a) ≡ cond stepped 1 0)
  each j h =
      let b = at_below (ours stepped a low) count j (both_right ((ltb a 256 && is_written a) && leb (count + low) 8) _ t) h in
      (eqb-true _ _ (both_left _ (eqb (bit (j + low) (decided a)) (cond stepped 1 0)) b), eqb-true _ _ (both_right (eqb (bit (j + low) (named a)) 1) _ b))

pub byte_small : (a old w : ℕ) → byte a old w < 256
unfolding byte
byte_small a old w = merge_small 8 _ _ _

module _ (want : ℕ → ℕ) (image : List ℕ) (a : ℕ) where
  -- what the last step asks for: the bits that it decides, and those wanted
  abbrev pub last : ℕ
  last = merge 8 (decided a) (left_up a) (want a)

  -- a register that the list writes, as the list leaves it
  pub left : is_written a ≡ true → finished want image a ≡ byte a (get_or image a 0) last
  unfolding finished written
  left w = rw w

  module _ (h : a < 256) (w : is_written a ≡ true) where
    carries : Carrying a (get_or image a 0) (named a) last (finished want image a)
    carries = rw (left w) (carried a h (get_or image a 0) last)

    pub ordered : under (mandated a) (finished want image a) ≡ under (mandated a) (bits a)
    ordered = carries.its_mandated

    pub named_bit : (j : ℕ) → j < 8 → bit j (named a) ≡ 1 → bit j (finished want image a) ≡ bit j last
    named_bit j l n = sym (masked (named a) j _ l n) ∙ ap (λ (x : ℕ). bit j x) carries.its_named ∙ masked (named a) j _ l n

  -- bit j of the merge, by whether steps decide it
  chosen : (stepped : Bool) (j : ℕ) → j < 8 → bit j (decided a) ≡ cond stepped 1 0 → bit j last ≡ bit j (cond stepped (left_up a) (want a))
  chosen true j l e = merge_bit 8 j (decided a) (left_up a) (want a) l ∙ rw e
  chosen false j l e = merge_bit 8 j (decided a) (left_up a) (want a) l ∙ rw e

  pub field : (stepped : Bool) (low count : ℕ) → is_field stepped a low count ≡ true
      → finished want image a / 2 ^ low % 2 ^ count ≡ cond stepped (left_up a) (want a) / 2 ^ low % 2 ^ count
  field stepped low count t =
      field_same low count _ _ (λ j h.
      let b = each stepped a low count t j h in
      let l : j + low < 8 = omega (arith, within stepped a low count t) in
      named_bit (small_address stepped a low count t) (is_written_lem stepped a low count t) (j + low) l b.0 ∙ chosen stepped (j + low) l b.1)
