-- What the two calls on single fields answer, as the code finds it: tied to document 01's rows by `FrameRefusals`.
use Rattle.std.specs.Prelude.{◌≡◌, ℕ, Result, not, ◌&&◌, List, [], ◌∷◌, replicate, ◌==◌}
use Rattle.refusals.specs.Rows.{mode_not_offered, field_out_of_range, combination}
use Rattle.refusals.specs.declared.Refusal.{Refusal}
use Rattle.refusals.specs.Numbered.{told}
use Rattle.refusals.specs.Tests.{Test, ◌if◌, lowest, answer}
use Rattle.video.specs.declared.Video.{Video}
use Rattle.video.specs.Modes.{mode_of}
use Rattle.video.specs.Tests.{shown_outside, shown_combined}
use Rattle.frames.specs.Numbered.{Avi}
use Rattle.frames.specs.Numbered.{Audio}
use Rattle.frames.specs.Frames.{avi_count, avi_frame}
use Rattle.frames.specs.Named.{framed}
use Rattle.frames.specs.Audio.{audio_data_bytes, audio_frame}

-- a refusal has its number, and zeros beside it
abbrev pub no_avi : ℕ → Avi
no_avi number = record { refusal = number; bytes = replicate (framed avi_count) 0 }

abbrev pub no_audio : ℕ → Audio
no_audio number = record { refusal = number; bytes = replicate (framed audio_data_bytes) 0 }

-- what an answer says in numbers: the frame's bytes, or what stands beside the number of a refusal
abbrev pub avi_told : Result (List ℕ) Refusal → Avi
avi_told = told (λ bytes. record { refusal = 0; bytes = bytes }) no_avi

abbrev pub audio_told : Result (List ℕ) Refusal → Audio
audio_told = told (λ bytes. record { refusal = 0; bytes = bytes }) no_audio

-- the AVI frame: the tests of rows 4, 5 and 6
abbrev pub avi_tests : Video → List Test
avi_tests video =
    mode_not_offered if ((mode_of video.vic).families == 0) ∷
    field_out_of_range if shown_outside video ∷
    combination if shown_combined video ∷ []

unfoldable pub avi_of : Video → Avi
avi_of video = answer (lowest (avi_tests video)) no_avi (record { refusal = 0; bytes = avi_frame video })

-- the audio frame: the test of row 5
abbrev pub channels_tests : ℕ → List Test
channels_tests channels = field_out_of_range if (not (channels == 2) && not (channels == 8)) ∷ []

unfoldable pub audio_of : ℕ → Audio
audio_of channels = answer (lowest (channels_tests channels)) no_audio (record { refusal = 0; bytes = audio_frame channels })

-- what `avi_of` and `audio_of` promise
abbrev pub GivesAvi : Video → Avi → Type 0
GivesAvi video r = r ≡ avi_of video

abbrev pub GivesAudio : ℕ → Audio → Type 0
GivesAudio channels r = r ≡ audio_of channels
