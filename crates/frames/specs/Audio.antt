-- Document 01, "InfoFrames": the audio frame, as the call on single fields answers it. Of the packet that is sent `AnyCut.new_audio` speaks, by
-- `audio_packet` (plan).
use Rattle.std.specs.Prelude.{ℕ, ◌-◌, cond, List, [], ◌∷◌, replicate, ◌==◌}
use Rattle.frames.specs.Frames.{frame}

-- "CC is channels less one; CA is 0x00 for 2 and 0x13 for 8; the rest 0." Byte 1 is CT3 to CT0 0 CC2 to CC0, byte 4 is CA.
abbrev pub audio_payload : ℕ → ℕ → List ℕ
audio_payload cc ca = cc ∷ 0 ∷ 0 ∷ ca ∷ replicate 6 0

abbrev pub allocation : ℕ → ℕ
allocation channels = cond (channels == 8) 0x13 0x00

-- "audio header 0x84, 0x01, 0x0A"
abbrev pub audio_data_bytes : ℕ
audio_data_bytes = 0x0A

abbrev pub audio_header : List ℕ
audio_header = 0x84 ∷ 0x01 ∷ audio_data_bytes ∷ []

unfoldable pub audio_frame : ℕ → List ℕ
audio_frame channels = frame audio_header (audio_payload (channels - 1) (allocation channels))

-- "Audio off: payload all 0."
unfoldable pub audio_off_frame : List ℕ
audio_off_frame = frame audio_header (replicate audio_data_bytes 0)
