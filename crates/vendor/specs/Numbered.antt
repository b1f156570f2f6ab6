-- What the code answers and has, in the paper's numbers.
-- The number is that of `refusal_number`: no two refusals have one (`refusals::told_apart`).
use Rattle.std.specs.Prelude.{Bool, List, map, ℕ, get_or, Result, Ok, Err}
use Rattle.refusals.specs.Rows.{number, bad_pair}
use Rattle.refusals.specs.Numbered.{refusal_number}
use Rattle.chip.specs.Machine.{Write, ◌gets◌}
use Rattle.vendor.specs.declared.Fault.{Fault}
use Rattle.vendor.specs.declared.Fault.TheVariants.{Refused, Pair}
use Rattle.vendor.specs.declared.Moves.{Moves}

-- the number of the refusal, 0 for none, and with 15 the place of the first bad pair, counted from 0
pub record Verdict : Type 0 where
  pub refusal : ℕ
  pub place : ℕ

abbrev pub verdict_told : Result (Unit {0}) Fault → Verdict
verdict_told (Ok u) = record { refusal = 0; place = 0 }
verdict_told (Err (Refused e)) = record { refusal = refusal_number e; place = 0 }
verdict_told (Err (Pair p)) = record { refusal = number bad_pair; place = p }

-- a group at a write: its first register, how many they are, and whether its buffer was in use before the write and is after it
pub record Moving : Type 0 where
  pub first : ℕ
  pub count : ℕ
  pub before : Bool
  pub after : Bool

abbrev pub moves_told : Moves → Moving
moves_told m = record { first = m.group.first; count = m.group.count; before = m.before; after = m.after }

-- pairs as the code has them
abbrev pub writes_in : List (List ℕ) → List Write
writes_in = map (λ p. get_or p 0 0 gets get_or p 1 0)
