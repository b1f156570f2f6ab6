-- Document 01, "The write list": what a written byte carries.
use Rattle.std.specs.Prelude.{◌≡◌, List, ℕ, ◌<◌, length, get_or}
use Rattle.bits.specs.Merge.{merge, under}
use Rattle.registers.specs.Classes.{read_only, mandated, named, free, bits}
use Rattle.chip.specs.Machine.{Write, ◌gets◌}
use Rattle.writes.specs.Rows.{hold_mask}
use Rattle.writes.specs.List.{full_list}

-- "Each written byte carries its mandated bits, the image's free and read-only bits and the wanted named bits": the value for register a,
-- where the image has `old`; of the named bits those under `mask` are as wanted
pub record Carrying (a old mask wanted value : ℕ) : Type 0 where
  pub its_mandated : under (mandated a) value ≡ under (mandated a) (bits a)
  pub its_free : under (free a) value ≡ under (free a) old
  pub its_read_only : under (read_only a) value ≡ under (read_only a) old
  pub its_named : under mask value ≡ under mask wanted

-- the named bits but those that hold or mute: of these `Order` speaks
abbrev pub requested : ℕ → ℕ
requested a = merge 8 (hold_mask a) 0 (named a)

-- every entry of the full list
abbrev pub Entries : (ℕ → ℕ) → List ℕ → Type 0
Entries want image =
    (k : ℕ) → k < length (full_list want image) → let w : Write = get_or (full_list want image) k (0 gets 0) in
    Carrying w.address (get_or image w.address 0) (requested w.address) (want w.address) w.value
