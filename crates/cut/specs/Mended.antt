-- Demand 3's last sentence, of a list that somebody else made (document 02, request 03).
use Rattle.std.specs.Prelude.{◌≡◌, true, List, ℕ, length}
use Rattle.chip.specs.declared.Chip.{Chip}
use Rattle.chip.specs.Machine.{Write}
use Rattle.writes.specs.List.{ready}
use Rattle.cut.specs.Run.{Event, run, cut}
use Rattle.cut.specs.Vsync.{FinishedRun}
use Rattle.cut.specs.Demand.{Same}

-- cut anywhere: planning there is refused by neither (7) nor (8), and a finished run from there ends as one from its start does
pub record Mended (planned : List ℕ → List Write) (es : List Event) (s : Chip) : Type 0 where
  pub whole : (k : ℕ) → length (cut es s k).image ≡ 256
  pub ready : (k : ℕ) → ready (cut es s k).image ≡ true
  pub again : (k : ℕ) (fs gs : List Event) → FinishedRun (planned s.image) fs → FinishedRun (planned (cut es s k).image) gs
      → Same (run fs s) (run gs (cut es s k))
