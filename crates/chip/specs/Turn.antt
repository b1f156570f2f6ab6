-- What a Vsync does, as a reader of request 04 would check it: `turn` proves it of `vsync_of`, which is what `Chip::vsync` promises.
use Rattle.std.specs.Prelude.{◌≡◌, true, false, get_or, take}
use Rattle.bits.specs.Merge.{bits_in}
use Rattle.chip.specs.declared.Chip.{Chip}
use Rattle.chip.specs.Machine.{matrix, converter, registers_of, held, in_use, enable_in_use, mode_in_use}
use Rattle.chip.specs.Write.{vsync_of}

-- what a Vsync promises
abbrev pub Turned : Chip → Chip → Type 0
Turned s left = left ≡ vsync_of s

-- request 04: a Vsync changes nothing but the mark
pub record Turn (s : Chip) : Type 0 where
  pub image : (vsync_of s).image ≡ s.image
  pub packet : (vsync_of s).packet ≡ s.packet
  pub coefficients : (vsync_of s).coefficients ≡ s.coefficients
  -- "A Vsync that ends a wait takes the registers as they then stand": with the hold down they are in use from then on
  pub ends : held s ≡ false → (vsync_of s).waiting ≡ false
  pub takes : held s ≡ false → in_use converter matrix (vsync_of s) ≡ registers_of matrix s.image
  -- "a mark beside a raised hold counts for nothing": the buffer is in use, waiting or not, and a Vsync leaves both
  pub beside : held s ≡ true → vsync_of s ≡ s
  pub raised : held s ≡ true → in_use converter matrix s ≡ take matrix.count s.coefficients
  -- until its Vsync a lowered hold leaves the buffer in use, whatever stands in the registers; where none waits, the registers are in use
  pub waiting : s.waiting ≡ true → in_use converter matrix s ≡ take matrix.count s.coefficients
  pub idle : s.waiting ≡ false → (vsync_of s ≡ s) × (held s ≡ false → in_use converter matrix s ≡ registers_of matrix s.image)

-- "Enable and mode in 0x18[7:5] act at once": in every state, whatever the hold and the mark, they are those of the register
pub record AtOnce (s : Chip) : Type 0 where
  pub enable : enable_in_use s ≡ bits_in 7 7 (get_or s.image 0x18 0)
  pub mode : mode_in_use s ≡ bits_in 6 5 (get_or s.image 0x18 0)
