-- What is proved of the audio section: its bytes, its ranges and its rates.
use Rattle.std.specs.Prelude.{◌≡◌, ◌⊎◌, ◌↔◌, List, ℕ, ◌<◌, length}
use Rattle.sound.specs.declared.Sound.{Sound}
use Rattle.sound.specs.Rates.{rates, code_for}
use Rattle.sound.specs.Coded.{rate_of}
use Rattle.sound.specs.Sound.{audio_count, sound_of, audio_body, SoundOutside}
use Rattle.sound.specs.Fits.{SoundFits}

-- a body of a count that the section allows and what it asks for say the same
abbrev pub AudioCounted : List ℕ → Type 0
AudioCounted body = (length body ≡ 0) ⊎ (length body ≡ audio_count)

pub record SoundBody : Type 0 where
  pub counted : (s : Sound) → AudioCounted (audio_body s)
  pub back : (s : Sound) → sound_of (audio_body s) ≡ s
  pub whole : (body : List ℕ) → AudioCounted body → audio_body (sound_of body) ≡ body

-- the ranges of `SoundFits` are what row 5 leaves
abbrev pub SoundRange : Type 0
SoundRange = (s : Sound) → SoundFits s ↔ (SoundOutside s → ⊥)

-- a code has four bits; read back it is its rate, and what reads back as a rate is its code
pub record RateTable : Type 0 where
  pub bits : (rate : ℕ) → code_for rate < 16
  pub back : (rate : ℕ) → rate < length rates → rate_of (code_for rate) ≡ rate
  pub only : (code : ℕ) → rate_of code < length rates → code_for (rate_of code) ≡ code
