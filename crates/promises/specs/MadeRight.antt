-- Document 02, request 09, of the planning entry: "always made right".
use Rattle.std.specs.Prelude.{◌≡◌, List, ℕ, ◌≤◌, length}
use Rattle.chip.specs.declared.Chip.{Chip}
use Rattle.writes.specs.List.{full_list}
use Rattle.plan.specs.Plan.{plan_of}
use Rattle.cut.specs.Run.{Event, writes_of}
use Rattle.cut.specs.Demand.{to_its_end}
use Rattle.cut.specs.Within.{MadeRight}
use Rattle.promises.specs.Rules.{asked}
use Rattle.promises.specs.AnyCut.{list_of}

pub record AlwaysRight (input : List ℕ) (s : Chip) : Type 0 where
  -- at every cut the state is one of a run with nothing left out, and so it is at the end
  pub made_right : (es : List Event) → writes_of es ≡ list_of input s.image → MadeRight (full_list (asked input) s.image) es s
  -- the same request once more, on what it left: the nine writes that always stay
  pub unchanged : (room : List ℕ) → 256 ≤ length room → (plan_of input (to_its_end (list_of input) s).image room).count ≡ 9

-- of an accepted request
abbrev pub MadeRightAgain : Type 0
MadeRightAgain = (input buffer : List ℕ) (s : Chip) → (plan_of input s.image buffer).refusal ≡ 0 → AlwaysRight input s
