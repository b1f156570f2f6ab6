-- Document 01, "The request": the audio section. Its rates stand in Rates.
use Rattle.std.specs.Prelude.{◌≢◌, ◌⊎◌, cond, List, [], ◌∷◌, ℕ, ◌<◌, eqb, get_or, length}
use Rattle.sound.specs.declared.Sound.{Sound}
use Rattle.sound.specs.declared.Sound.TheVariants.{Off, On}

-- "Audio, count 0 or 3: rate ..; channels ..; coherent .."
abbrev pub audio_count : ℕ
audio_count = 3

-- what a body asks for, and the body that asks for it: sound is off where the section is empty
abbrev pub sound_of : List ℕ → Sound
sound_of body = cond (eqb (length body) 0) Off (On (get_or body 0 0) (get_or body 1 0) (get_or body 2 0))

abbrev pub audio_body : Sound → List ℕ
audio_body Off = []
audio_body (On rate channels coherent) = rate ∷ channels ∷ coherent ∷ []

-- row 5, of this section: "any other field outside its range", where "rate (0 to 6 ..); channels (2 or 8); coherent (0 or 1)"
abbrev pub SoundOutside : Sound → Type 0
SoundOutside Off = ⊥
SoundOutside (On rate channels coherent) = (6 < rate) ⊎ ((channels ≢ 2) × (channels ≢ 8)) ⊎ (1 < coherent)
