-- The states of a planned run, as `Cut` speaks of them. Assumes nothing.
use mathlib.Core.Path.{◌≡◌}
use mathlib.Core.Logic.{◌⊎◌}
use mathlib.Core.List.{List}
use Prim.Native.Nat.{ℕ}
use lib.ListN.{take}
use Rattle.chip.specs.declared.Chip.{Chip}
use Rattle.chip.specs.Machine.{Write}
use Rattle.cut.specs.Run.{run}
use Rattle.cut.specs.Room.{sent}

-- how wanted bytes and an image give a list
abbrev pub Planner : Type 0
Planner = (ℕ → ℕ) → List ℕ → List Write

-- the state that a cut after k writes leaves, and the one at the end
abbrev pub cut_of : Planner → (ℕ → ℕ) → Chip → ℕ → Chip
cut_of P want s k = run (take k (sent (P want s.image))) s

abbrev pub end_of : Planner → (ℕ → ℕ) → Chip → Chip
end_of P want s = run (sent (P want s.image)) s

-- what f says of t is what it says of s, or what it says of r
abbrev pub OldOrNew : (Chip → List ℕ) → Chip → Chip → Chip → Type 0
OldOrNew f s r t = (f t ≡ f s) ⊎ (f t ≡ f r)
