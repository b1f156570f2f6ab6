-- The four slices of a call as the code holds them. `Entered` and `EnteredVsync` (Theorems) speak of the calls themselves.
use Rattle.std.specs.Prelude.{◌≡◌, false, replicate}
use Rattle.chip.specs.declared.Chip.{Chip}
use Rattle.chip.specs.Write.{lent_as}
use Rattle.views.specs.declared.entry.Slices.{Slices}
use Rattle.views.specs.Entry.{Lent, lent, slices_of}

-- a state of zeros, over which slices are laid
abbrev pub blank : Chip
blank = lent_as (replicate 256 0) (replicate 32 0) (replicate 24 0) false

-- their bytes
abbrev pub lent_in : Slices → Lent
lent_in s = lent s.image.now s.packet.now s.coefficients.now s.mark.now

-- a state left in them: they are the same slices, with its bytes
pub record LeavesIn (old : Slices) (s : Chip) (new : Slices) : Type 0 where
  pub same_image : new.image.ghost_name ≡ old.image.ghost_name
  pub same_packet : new.packet.ghost_name ≡ old.packet.ghost_name
  pub same_coefficients : new.coefficients.ghost_name ≡ old.coefficients.ghost_name
  pub same_mark : new.mark.ghost_name ≡ old.mark.ghost_name
  pub bytes : lent_in new ≡ slices_of s
