-- Document 01, "The write list": the full list, write by write, is the one of `Rows`. `Fewer` says what request 09 leaves out of it.
use Rattle.std.specs.Prelude.{◌≡◌, List, map, ℕ}
use Rattle.bits.specs.Merge.{under}
use Rattle.chip.specs.Machine.{Write, audio, packets, up, holds_of}
use Rattle.writes.specs.Rows.{hold_mask, list_rows}
use Rattle.writes.specs.List.{full_list}

abbrev pub addresses : List Write → List ℕ
addresses = map (λ w. w.address)

-- a write's row
abbrev pub row_of_write : Write → ℕ × ℕ
row_of_write w = (w.address, under (hold_mask w.address) w.value)

pub record Order (want : ℕ → ℕ) (image : List ℕ) : Type 0 where
  -- whatever is wanted and whatever the image has
  pub rows : map row_of_write (full_list want image) ≡ list_rows (up audio (holds_of packets image))
