-- The rule of the class table, by one test over all 256 addresses that antt computes. Assumes nothing.
use mathlib.Core.Path.{◌≡◌, refl}
use mathlib.Core.Bool.{Bool, true, ◌&&◌}
use Prim.Native.Nat.{ℕ, ◌+◌, ◌<◌, max}
use native.Mathlib.Omega.{arith}
use lib.Dec.{eqb, leb, ltb}
use borrow.Author.Tests.{eqb-true, leb-true, ltb-true}
use Rattle.bits.specs.Merge.{bit}
use Rattle.lists.proofs.Both.{both_left, both_right}
use Rattle.bits.proofs.Below.{below, at_below}
use Rattle.registers.specs.declared.Class.{Class}
use Rattle.registers.specs.Classes.{class_at, Rule}

module _ (c : Class) where
  abbrev one : ℕ → Bool
  one j = eqb (bit j c.read_only + bit j c.mandated + bit j c.named + bit j c.free) 1

  abbrev inside : ℕ → Bool
  inside j = leb (bit j c.bits) (bit j c.mandated)

  abbrev largest : ℕ
  largest = max c.read_only (max c.mandated (max c.named (max c.free c.bits)))

  abbrev test : Bool
  test = below one 8 && below inside 8 && ltb largest 256

  told : test ≡ true → Rule c
  told t =
      let bits : (below one 8 && below inside 8) ≡ true = both_left (below one 8 && below inside 8) (ltb largest 256) t in
      let byte : largest < 256 = ltb-true largest 256 (both_right (below one 8 && below inside 8) (ltb largest 256) t) in
      record {
        one = λ j h. eqb-true _ 1 (at_below one 8 j (both_left (below one 8) (below inside 8) bits) h);
        inside = λ j h. leb-true _ _ (at_below inside 8 j (both_right (below one 8) (below inside 8) bits) h);
        bytes = (omega arith, omega arith, omega arith, omega arith, omega arith);
      }

pub rule : (a : ℕ) → a < 256 → Rule (class_at a)
unfolding class_at
rule a h = told (class_at a) (at_below (λ a. test (class_at a)) 256 a refl h)
