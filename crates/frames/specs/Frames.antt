-- Document 01, "InfoFrames": the checksum and the AVI frame (the audio frame: `Audio`, and `audio_packet` of plan); Q is document 02's, request 01, PR request 06's, and the
-- bits above PR request 11's.
use Rattle.std.specs.Prelude.{ℕ, ◌+◌, ◌-◌, ◌*◌, ◌%◌, cond, List, [], ◌∷◌, ◌++◌, replicate, ◌==◌, slice_index}
use Rattle.video.specs.declared.Mode.{Mode}
use Rattle.video.specs.declared.Video.{Video}
use Rattle.video.specs.Modes.{mode_of}
use Rattle.video.specs.Video.{repetition, ycc_quantisation, content_type}

-- "the sum of all bytes"
unfoldable pub total : List ℕ → ℕ
total [] = 0
total (x ∷ xs) = x + total xs

-- "The checksum byte makes the sum of all bytes zero modulo 256": 0, and not 256, where the sum is zero already
abbrev pub checksum_of : List ℕ → ℕ
checksum_of bytes = (256 - total bytes % 256) % 256

-- a frame: its header of three bytes, the checksum, its payload, which are the data bytes 1 to the count that the header's third byte is
abbrev pub frame : List ℕ → List ℕ → List ℕ
frame header payload = header ++ checksum_of (header ++ payload) ∷ payload

-- "C is 0 for RGB, else 1 for VIC 1, 2, 3, 17, 18 and 2 for the rest"
abbrev pub colorimetry : Mode → ℕ → ℕ
colorimetry mode encoding = cond (encoding == 0) 0 mode.colorimetry

-- request 01: "Q becomes 1 or 2 to match when the encoding is RGB, and stays 0 for YCbCr"; a range is "0 limited, 1 full"
abbrev pub quantisation : Video → ℕ
quantisation v = cond (v.encoding == 0) (cond (v.range == 0) 1 2) 0

-- request 06: "0x3B[4:1] and PR follow" the repetition: how often a pixel is sent again
abbrev pub repeats : Video → ℕ
repeats v = slice_index (0 ∷ 1 ∷ 3 ∷ []) (repetition v)

-- "AVI header 0x82, 0x02, 0x0D"
abbrev pub avi_count : ℕ
avi_count = 0x0D

abbrev pub avi_header : List ℕ
avi_header = 0x82 ∷ 0x02 ∷ avi_count ∷ []

-- "Y is the encoding; A is 1; B, S, ITC, EC, SC, .. and bars are 0; C ..; M from the aspect; R is 8; VIC as asked"
-- Byte 1 is 0 Y1 Y0 A B1 B0 S1 S0, byte 2 C1 C0 M1 M0 R3 to R0, byte 3 ITC EC Q SC, byte 4 the VIC, bytes 6 to 13 the bars. Byte 5 is PR
-- in [3:0]; request 11: "the YCC quantisation and content type bits in AVI data byte 5", [7:6] and [5:4], 0 in D.
abbrev pub avi_payload : Video → List ℕ
avi_payload v =
    let mode : Mode = mode_of v.vic in
    (v.encoding * 32 + 16) ∷
    (colorimetry mode v.encoding * 64 + mode.aspect * 16 + 8) ∷
    (quantisation v * 4) ∷
    v.vic ∷
    (ycc_quantisation v * 64 + content_type v * 16 + repeats v) ∷
    replicate 8 0

unfoldable pub avi_frame : Video → List ℕ
avi_frame video = frame avi_header (avi_payload video)
