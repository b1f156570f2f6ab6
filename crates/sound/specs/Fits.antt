-- What is known of the sound of an accepted request (`request::accepted_fits`): row 5 does not apply to it.
use Rattle.std.specs.Prelude.{◌≡◌, ◌⊎◌, ◌≤◌}
use Rattle.sound.specs.declared.Sound.{Sound}
use Rattle.sound.specs.declared.Sound.TheVariants.{Off, On}

-- "rate (0 to 6 ..); channels (2 or 8); coherent (0 or 1)"
abbrev pub SoundFits : Sound → Type 0
SoundFits Off = Unit
SoundFits (On rate channels coherent) = (rate ≤ 6) × ((channels ≡ 2) ⊎ (channels ≡ 8)) × (coherent ≤ 1)
