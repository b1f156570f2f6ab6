-- What is proved of the frames: document 01's words for the checksum, when the two calls on single fields are refused, and that an AVI
-- frame names the video that it was made for.
use Rattle.std.specs.Prelude.{◌≡◌, ℕ, ◌+◌, ◌%◌, ◌<◌, false, ◌≢◌, List, [], ◌∷◌, replicate}
use Rattle.lists.specs.Among.{among}
use Rattle.refusals.specs.Rows.{mode_not_offered, field_out_of_range, combination, Condition, ◌when◌, Given}
use Rattle.video.specs.declared.Video.{Video}
use Rattle.video.specs.Modes.{listed}
use Rattle.video.specs.Video.{depth, answered, ShownOutside, ShownCombined}
use Rattle.video.specs.Fits.{VideoFits}
use Rattle.frames.specs.Frames.{total, checksum_of, frame, avi_count, avi_payload, avi_frame}
use Rattle.frames.specs.Named.{framed}
use Rattle.frames.specs.Audio.{audio_data_bytes, audio_frame}
use Rattle.frames.specs.Named.{video_named}
use Rattle.frames.specs.Answers.{avi_of, audio_of}

-- "A call on single fields checks those .. whose fields it takes": the AVI frame row 4, "VIC not listed below", row 5, "any other field
-- outside its range", and of row 6 "range 1 with YCbCr" and "E's bits under D"; the audio frame row 5: the channels are 2 or 8
abbrev pub avi_rules : Video → List Condition
avi_rules video =
    mode_not_offered when (among video.vic listed ≡ false) ∷
    field_out_of_range when ShownOutside video ∷
    combination when ShownCombined video ∷ []

abbrev pub audio_rules : ℕ → List Condition
audio_rules channels = field_out_of_range when ((channels ≢ 2) × (channels ≢ 8)) ∷ []

-- the refusals of the two calls, zeros beside them, and the frame where none is given
pub record FrameRefusals : Type 0 where
  pub avi : (video : Video) → Given (avi_rules video) (avi_of video).refusal
  pub no_avi : (video : Video) → (avi_of video).refusal ≢ 0 → (avi_of video).bytes ≡ replicate (framed avi_count) 0
  pub avi_given : (video : Video) → (avi_of video).refusal ≡ 0 → (avi_of video).bytes ≡ avi_frame video
  pub audio : (channels : ℕ) → Given (audio_rules channels) (audio_of channels).refusal
  pub no_audio : (channels : ℕ) → (audio_of channels).refusal ≢ 0 → (audio_of channels).bytes ≡ replicate (framed audio_data_bytes) 0
  pub audio_given : (channels : ℕ) → (audio_of channels).refusal ≡ 0 → (audio_of channels).bytes ≡ audio_frame channels

-- The checksum does what document 01 says, whatever the header and the payload; and no other byte does.
pub record Checksum : Type 0 where
  pub zero : (header payload : List ℕ) → total (frame header payload) % 256 ≡ 0
  pub byte : (bytes : List ℕ) → checksum_of bytes < 256
  pub only : (bytes : List ℕ) (c : ℕ) → c < 256 → (c + total bytes) % 256 ≡ 0 → c ≡ checksum_of bytes
  pub already : (bytes : List ℕ) → total bytes % 256 ≡ 0 → checksum_of bytes ≡ 0

-- "the finished image reads back as the same request, but for the frame-rate family", and but for an E that asks for nothing, of the AVI
-- packet alone: its data bytes name the video that it was made for. Which link it goes over, and at what depth, no byte of it says.
abbrev pub NamedBack : Type 0
NamedBack = (v : Video) → VideoFits v → video_named v.link (depth v) (avi_payload v) ≡ answered v
