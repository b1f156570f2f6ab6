-- A run of any list, whoever made it, wherever Vsyncs come: what demand 3 says of ours that holds of all. `Clauses` has the rest.
use Rattle.std.specs.Prelude.{◌≡◌, ◌⊎◌, false, List, ℕ, ◌<◌, length}
use Rattle.chip.specs.declared.Chip.{Chip}
use Rattle.chip.specs.Machine.{Write}
use Rattle.chip.specs.Write.{vsync_of}
use Rattle.cut.specs.Run.{Event, happens, run, cut, event, writes_of, writes_by, IsFair}
use Rattle.cut.specs.Vsync.{change_waits, FinishedRun}

-- every event is fair where it happens, and none is refused
abbrev pub Good : List Event → Chip → Type 0
Good es s = (k : ℕ) → k < length es → IsFair (event es k) (cut es s k) × ((happens (event es k) (cut es s k)).refusal ≡ 0)

pub record AnyRun (es : List Event) (s : Chip) : Type 0 where
  -- "Before the first write nothing has moved", but by Vsync
  pub before : (k : ℕ) → writes_by es k ≡ 0 → (cut es s k ≡ s) ⊎ (cut es s k ≡ vsync_of s)
  -- where it is good, so is every run of the same writes
  pub anywhere : Good es s → (fs : List Event) → writes_of fs ≡ writes_of es → Good fs s
  -- a finished one ends with nothing waiting
  pub idle : length s.image ≡ 256 → (ws : List Write) → FinishedRun ws es → change_waits (run es s) ≡ false
