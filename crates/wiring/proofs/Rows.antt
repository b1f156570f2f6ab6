-- A test that every row of the table of IDs passes, and what stands for none, the row of any ID passes. Assumes nothing.
use mathlib.Core.Path.{◌≡◌}
use mathlib.Core.Bool.{Bool, true}
use Prim.Native.Nat.{ℕ}
use Rattle.lists.specs.Find.{every}
use Rattle.lists.proofs.Find.{every_or}
use Rattle.wiring.specs.declared.Kind.{Kind}
use Rattle.wiring.specs.Kinds.{kinds, no_kind, kind_of}

pub each : (test : Kind → Bool) → every test kinds ≡ true → test no_kind ≡ true → (input : ℕ) → test (kind_of input) ≡ true
unfolding kind_of
each test = every_or test kinds no_kind
