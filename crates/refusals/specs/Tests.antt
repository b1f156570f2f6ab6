-- How a call finds the refusal that it gives, as the code does. `Given` (Rows) is what it must be: where a call's tests decide its conditions
-- one by one, the first test that is true gives it (`lowest-given`), and each call's theorem says so of its own rows.
use Rattle.std.specs.Prelude.{Bool, cond, List, [], ◌∷◌, ℕ, eqb}
use Rattle.refusals.specs.Rows.{Row, number}

-- a test that a call makes for a row, and what it found
pub record Test : Type 0 where
  pub row : Row
  pub found : Bool

infix 80 ◌if◌
abbrev pub ◌if◌ : Row → Bool → Test
row if b = record { row = row; found = b }

-- how a call finds what it gives: the number of its first test that is true, 0 for none. Where its tests decide its conditions one by one,
-- that is what `Given` asks for (`lowest-given`).
abbrev pub lowest : List Test → ℕ
lowest [] = 0
lowest (t ∷ ts) = cond t.found (number t.row) (lowest ts)

-- what a call answers: x where none is given, and else what stands beside the number
abbrev pub answer : {X : Type 0} → ℕ → (ℕ → X) → X → X
answer given refused x = cond (eqb given 0) x (refused given)
