-- Document 02, request 09: a list with some writes left out does what the whole list does; and planned again it is no longer.
use Rattle.std.specs.Prelude.{◌≡◌, List, ℕ, suc, ◌≤◌, length}
use Rattle.chip.specs.declared.Chip.{Chip}
use Rattle.chip.specs.Machine.{Write}
use Rattle.cut.specs.Run.{Event, run, cut, writes_of}
use Rattle.cut.specs.Demand.{Cut, cuts, PlannedAgain}

-- each state of the shorter run, at every cut, is a state of the longer one, in the same order; and both end in the same state, the two
-- buffers and the mark too
pub record Within (shorter longer : List Event) (s : Chip) : Type 0 where
  pub place : ℕ → ℕ
  pub cuts : (k : ℕ) → cut shorter s k ≡ cut longer s (place k)
  pub rises : (k : ℕ) → place k ≤ place (suc k)
  pub ends : run shorter s ≡ run longer s

-- a run of a list with some writes left out, its Vsyncs wherever they come, lies within a run of the full list
pub record MadeRight (full : List Write) (es : List Event) (s : Chip) : Type 0 where
  pub whole : List Event
  pub runs : writes_of whole ≡ full
  pub within : Within es whole s

-- planned again where the last of some cuts left off
abbrev pub NoLonger : (List ℕ → List Write) → Chip → Type 0
NoLonger planned s = (cs : List Cut) → PlannedAgain planned cs s → length (planned (cuts cs s).image) ≤ length (planned s.image)
