-- The tests that decide rows 5 and 6 of the audio section, as `request::rows` says.
use Rattle.std.specs.Prelude.{Bool, true, false, not, ◌&&◌, ◌||◌, eqb, ltb}
use Rattle.sound.specs.declared.Sound.{Sound}
use Rattle.sound.specs.declared.Sound.TheVariants.{Off, On}

abbrev pub is_on : Sound → Bool
is_on Off = false
is_on (On rate channels coherent) = true

abbrev pub sound_outside : Sound → Bool
sound_outside Off = false
sound_outside (On rate channels coherent) = ltb 6 rate || ((not (eqb channels 2) && not (eqb channels 8)) || ltb 1 coherent)
