-- What a pen has room for, and what it has written: some pairs of its image and bytes, which stay, stored in its buffer from its place on.
-- `Lists` (List) speaks of the whole list.
use Rattle.std.specs.Prelude.{◌≡◌, List, ℕ, ◌+◌, ◌*◌, ◌≤◌, length}
use Rattle.chip.specs.Machine.{Write}
use Rattle.writes.specs.declared.Pen.{Pen}
use Rattle.writes.specs.Parts.{Puts}

pub record Penned (old : Pen) (pairs : List ℕ → List ℕ → List Write) (new : Pen) : Type 0 where
  pub same_buffer : new.writes.ghost_name ≡ old.writes.ghost_name
  pub same_room : length new.writes.now ≡ length old.writes.now
  pub same_image : new.image.now ≡ old.image.now
  pub same_bytes : new.bytes.now ≡ old.bytes.now
  pub puts : Puts old.writes.now old.at (pairs old.image.now old.bytes.now) new.at new.writes.now

-- room for this many pairs more, and as many written at most
abbrev pub HasRoom : Pen → ℕ → Type 0
HasRoom pen count = 2 * (pen.at + count) ≤ length pen.writes.now

abbrev pub AddsAtMost : Pen → ℕ → Pen → Type 0
AddsAtMost old count new = new.at ≤ old.at + count
