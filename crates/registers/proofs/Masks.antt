-- The named bits of each register are those of its named fields, by one test over all 256 addresses. Assumes nothing.
use mathlib.Core.Path.{◌≡◌, refl}
use mathlib.Core.Bool.{Bool}
use Prim.Native.Nat.{ℕ, ◌<◌}
use lib.Dec.{eqb}
use borrow.Author.Tests.{eqb-true}
use Rattle.bits.proofs.Below.{at_below}
use Rattle.registers.specs.Classes.{class_at, named}
use Rattle.registers.specs.Fields.{named_fields, mask_in}

abbrev test : ℕ → Bool
test a = eqb (named a) (mask_in named_fields a)

pub masks : (a : ℕ) → a < 256 → named a ≡ mask_in named_fields a
unfolding class_at
masks a h = eqb-true (named a) (mask_in named_fields a) (at_below test 256 a refl h)
