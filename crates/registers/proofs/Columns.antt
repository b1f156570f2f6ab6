-- A column of the class table, read at an address, is that field of the address's class. Assumes nothing.
use mathlib.Core.Path.{◌≡◌}
use mathlib.Core.List.{map}
use Prim.Native.Nat.{ℕ}
use lib.ListN.{get_or, get_or-map}
use Rattle.registers.specs.declared.Class.{Class}
use Rattle.registers.specs.Classes.{class, classes, class_at}

pub at_address : (f : Class → ℕ) (a : ℕ) → get_or (map f classes) a (f (class 0 0 0 0 0)) ≡ f (class_at a)
unfolding class_at
at_address f a = get_or-map f classes a (class 0 0 0 0 0)
