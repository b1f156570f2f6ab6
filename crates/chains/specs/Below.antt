-- What the links of a chain rest on: promises of the crates below, `EveryCut` among them, as their functions state them.
use Rattle.std.specs.Prelude.{◌≡◌, true, List, ℕ, ◌<◌, length}
use Rattle.chip.specs.declared.Chip.{Chip}
use Rattle.chip.specs.Turn.{Turn}
use Rattle.writes.specs.List.{write_list, ready}
use Rattle.decode.specs.Theorems.{AtMostOne}
use Rattle.cut.specs.Run.{Event, happens, cut, event, IsFair, Untouched}
use Rattle.cut.specs.AnyRun.{AnyRun}
use Rattle.cut.specs.Mended.{Mended}
use Rattle.promises.specs.AnyCut.{EveryCut}
use Rattle.promises.specs.Vendors.{Vendors}

pub record Below : Type 0 where
  -- chip::turn
  pub turn : (s : Chip) → Turn s
  -- decode::at_most_one
  pub one : (image : List ℕ) → AtMostOne image
  -- cut::any_run, cut::fair_run, cut::mended_run
  pub runs : (es : List Event) (s : Chip) → AnyRun es s
  pub fair : (es : List Event) (s : Chip) → ((k : ℕ) → k < length es → IsFair (event es k) (cut es s k)) → Untouched es s
  pub mended : (want : ℕ → ℕ) (es : List Event) (s : Chip) → length s.image ≡ 256 → ready s.image ≡ true
      → ((k : ℕ) → k < length es → IsFair (event es k) (cut es s k))
      → ((k : ℕ) → k < length es → (happens (event es k) (cut es s k)).refusal ≡ 0) → Mended (write_list want) es s
  -- promises::demand_3, promises::vendors_lists
  pub every : EveryCut
  pub vendors : Vendors
