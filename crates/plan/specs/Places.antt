-- Document 01's named fields, in its notation: the number that a request has in each of them, with the fields that document 02 adds last. No
-- number comes from writes or from steps. The wanted byte of a register is what stands here (`Wanted`), and the finished image shows it.
use Rattle.std.specs.Prelude.{◌≡◌, cond, List, [], ◌∷◌, ◌++◌, ℕ, zero, suc, ◌+◌, ◌-◌, ◌/◌, ◌%◌, eqb, get_or, replicate}
use Rattle.lists.specs.Among.{among}
use Rattle.bits.specs.Merge.{bits_in}
use Rattle.map.specs.Map.{audio_select_default, audio_mode_default, i2s_format_default}
use Rattle.wiring.specs.declared.Wires.{Wires}
use Rattle.wiring.specs.Wiring.{wires_of}
use Rattle.video.specs.Video.{depth, repetition, ycc_quantisation, content_type}
use Rattle.sound.specs.Rates.{code_for}
use Rattle.clock.specs.Numbered.{Pair}
use Rattle.clock.specs.Clocks.{times}
use Rattle.frames.specs.Frames.{frame, avi_frame}
use Rattle.sound.specs.declared.Sound.{Sound}
use Rattle.sound.specs.declared.Sound.TheVariants.{Off, On}
use Rattle.request.specs.declared.Request.{Request}

-- the bits [high:low] of a register, and the number that stands there
pub record Place : Type 0 where
  pub address : ℕ
  pub high : ℕ
  pub low : ℕ
  pub number : ℕ

abbrev pub place : ℕ → ℕ → ℕ → ℕ → Place
place address high low number = record { address = address; high = high; low = low; number = number }

-- 1 with audio, 0 without; 1 with eight channels; 1 for coherent audio, whose CTS is manual
abbrev pub with_sound : Sound → ℕ
with_sound Off = 0
with_sound (On rate channels coherent) = 1

abbrev pub eight_channels : Sound → ℕ
eight_channels Off = 0
eight_channels (On rate channels coherent) = cond (eqb channels 8) 1 0

abbrev pub manual_cts : Sound → ℕ
manual_cts Off = 0
manual_cts (On rate channels coherent) = coherent

-- the map's code for the rate; "Audio off: .. the 48 kHz rate code", which is rate 2's
abbrev pub rate_code_of : Sound → ℕ
rate_code_of Off = code_for 2
rate_code_of (On rate channels coherent) = code_for rate

-- "C is 0 for RGB, else 1 for VIC 1, 2, 3, 17, 18 and 2 for the rest"; "M from the aspect", which is 4:3, M 1, for VIC 1, 2, 17 and
-- 16:9, M 2, for the others
abbrev pub in_c : ℕ → ℕ → ℕ
in_c vic encoding = cond (eqb encoding 0) 0 (cond (among vic (1 ∷ 2 ∷ 3 ∷ 17 ∷ 18 ∷ [])) 1 2)

abbrev pub in_m : ℕ → ℕ
in_m vic = cond (among vic (1 ∷ 2 ∷ 17 ∷ [])) 1 2

-- request 01: "Q becomes 1 or 2 to match when the encoding is RGB, and stays 0 for YCbCr"; the range is "0 limited, 1 full"
abbrev pub in_q : ℕ → ℕ → ℕ
in_q encoding range = cond (eqb encoding 0) (get_or (1 ∷ 2 ∷ []) range 0) 0

-- request 06: "0x3B[4:1] and PR follow" the repetition, "none, 2, 4"; PR counts the repeats, so it is one less. And "The general control
-- fields for depth", at 24, 30 and 36 bits
abbrev pub in_pr : ℕ → ℕ
in_pr repetition = times repetition - 1

abbrev pub depth_numbers : List ℕ
depth_numbers = 0b0000 ∷ 0b0101 ∷ 0b0110 ∷ []

-- "CC is channels less one; CA is 0x00 for 2 and 0x13 for 8; the rest 0." "Audio off: payload all 0."
abbrev pub in_cc : Sound → ℕ
in_cc Off = 0
in_cc (On rate channels coherent) = channels - 1

abbrev pub in_ca : Sound → ℕ
in_ca Off = 0x00
in_ca (On rate channels coherent) = cond (eqb channels 8) 0x13 0x00

-- the audio packet: "audio header 0x84, 0x01, 0x0A", the checksum, and ten data bytes, of which 1 is CT 0 CC, and 4 CA
abbrev pub audio_packet : Sound → List ℕ
audio_packet s = frame (0x84 ∷ 0x01 ∷ 0x0A ∷ []) (in_cc s ∷ 0 ∷ 0 ∷ in_ca s ∷ replicate 6 0)

-- count coefficients of a list from the i-th on, each in two registers: its high five bits, its low eight
abbrev pub coefficient_places : ℕ → List ℕ → ℕ → ℕ → List Place
coefficient_places address k i zero = []
coefficient_places address k i (suc count) =
    place address 4 0 (get_or k i 0 / 256) ∷ place (address + 1) 7 0 (get_or k i 0 % 256) ∷ coefficient_places (address + 2) k (suc i) count

-- count registers from `first` on that are 0
abbrev pub zero_places : ℕ → ℕ → List Place
zero_places first zero = []
zero_places first (suc count) = place first 7 0 0 ∷ zero_places (first + 1) count

-- request 02: "depth, style and justification" and "the sync generation fields 0x30 to 0x34": Hsync placement, Hsync duration, Vsync placement,
-- Vsync duration, ten bits each, one after the other (000, 4.3.7.2)
abbrev pub wiring_places : Wires → List Place
wiring_places n =
    place 0x16 5 4 n.depth ∷ place 0x16 3 2 n.style ∷ place 0x48 4 3 n.justification ∷
    place 0x30 7 0 (n.hplacement / 4) ∷ place 0x31 7 6 (n.hplacement % 4) ∷
    place 0x31 5 0 (n.hduration / 16) ∷ place 0x32 7 4 (n.hduration % 16) ∷
    place 0x32 3 0 (n.vplacement / 64) ∷ place 0x33 7 2 (n.vplacement % 64) ∷
    place 0x33 1 0 (n.vduration / 256) ∷ place 0x34 7 0 (n.vduration % 256) ∷ []

-- the table, in the order of the sentence "Named: N, CTS, .."; the rows of one register stand in falling order of bits
abbrev pub places : Request → Pair → List Place
places r p =
    -- "N, CTS"
    place 0x01 3 0 (p.n / 65536) ∷ place 0x02 7 0 (p.n / 256 % 256) ∷ place 0x03 7 0 (p.n % 256) ∷
    place 0x07 3 0 (p.cts / 65536) ∷ place 0x08 7 0 (p.cts / 256 % 256) ∷ place 0x09 7 0 (p.cts % 256) ∷
    -- "CTS select": "Coherent audio sets 0x0A[7] to 1"; "audio select and mode". "A named field for which this document gives no value
    -- holds the map's default": these two, and below the I2S format; "standard I2S" says the same
    place 0x0A 7 7 (manual_cts r.sound) ∷ place 0x0A 6 4 (bits_in 6 4 audio_select_default) ∷ place 0x0A 3 2 (bits_in 3 2 audio_mode_default) ∷
    -- "I2S enables": "one I2S input is enabled for 2 channels, all four for 8, none when off"; "and format"
    place 0x0C 5 5 (eight_channels r.sound) ∷ place 0x0C 4 4 (eight_channels r.sound) ∷ place 0x0C 3 3 (eight_channels r.sound) ∷
    place 0x0C 2 2 (with_sound r.sound) ∷ place 0x0C 1 0 (bits_in 1 0 i2s_format_default) ∷
    -- "rate, input format, output format", which is 1 for 4:2:2; since request 02 the input format is the wiring's ID
    place 0x15 7 4 (rate_code_of r.sound) ∷ place 0x15 3 0 (wires_of r.wiring).input ∷
    place 0x16 7 7 (cond (eqb r.video.encoding 1) 1 0) ∷
    -- "CSC with its hold"
    place 0x18 7 7 r.matrix.on ∷ place 0x18 6 5 r.matrix.mode ∷ place 0x1A 5 5 0 ∷ [] ++
    coefficient_places 0x18 r.matrix.coefficients 0 12 ++
    -- "0x3B[6:5] = 2", "VIC in 0x3C[5:0]"; request 06: "0x3B[4:1] .. follow" the repetition, 0, 1 or 2 in both of its fields
    place 0x3B 6 5 2 ∷ place 0x3B 4 3 (repetition r.video) ∷ place 0x3B 2 1 (repetition r.video) ∷ place 0x3C 5 0 r.video.vic ∷
    -- "the GC enable 0x40[7], the enables 0x44[6:3]": "with HDMI the GC and AVI enables are 1 and the three audio enables .. 1 exactly with
    -- audio". "With DVI these five enables are 0", for DVI with audio is refusal 6
    place 0x40 7 7 r.video.link ∷
    place 0x44 6 6 (with_sound r.sound) ∷ place 0x44 5 5 (with_sound r.sound) ∷ place 0x44 4 4 r.video.link ∷
    place 0x44 3 3 (with_sound r.sound) ∷
    -- "0x4A[7:5]": "0x4A[7] is 1", the holds are down; "AV mute": "Open: set 0, clear 1"; "HDMI/DVI"
    place 0x4A 7 7 1 ∷ place 0x4A 6 5 0 ∷ place 0x4B 7 7 1 ∷ place 0x4B 6 6 0 ∷ place 0xAF 1 1 r.video.link ∷
    -- "the AVI version, length, checksum and data bytes 1 to 13": byte 1 is 0 Y A B S, byte 2 C M R, byte 3 ITC EC Q SC, byte 4 the VIC, byte 5
    -- YQ CN PR; request 11: "the YCC quantisation and content type bits in AVI data byte 5"
    place 0x52 2 0 0x02 ∷ place 0x53 4 0 0x0D ∷ place 0x54 7 0 (get_or (avi_frame r.video) 3 0) ∷
    place 0x55 7 7 0 ∷ place 0x55 6 5 r.video.encoding ∷ place 0x55 4 4 1 ∷ place 0x55 3 0 0 ∷
    place 0x56 7 6 (in_c r.video.vic r.video.encoding) ∷ place 0x56 5 4 (in_m r.video.vic) ∷ place 0x56 3 0 8 ∷
    place 0x57 7 4 0 ∷ place 0x57 3 2 (in_q r.video.encoding r.video.range) ∷ place 0x57 1 0 0 ∷
    place 0x58 7 0 r.video.vic ∷
    place 0x59 7 6 (ycc_quantisation r.video) ∷ place 0x59 5 4 (content_type r.video) ∷ place 0x59 3 0 (in_pr (repetition r.video)) ∷ [] ++
    zero_places 0x5A 8 ++
    -- "the audio InfoFrame": byte 1 is CT 0 CC, byte 4 CA
    place 0x70 2 0 0x01 ∷ place 0x71 4 0 0x0A ∷ place 0x72 7 0 (get_or (audio_packet r.sound) 3 0) ∷
    place 0x73 7 3 0 ∷ place 0x73 2 0 (in_cc r.sound) ∷ place 0x74 7 0 0 ∷ place 0x75 7 0 0 ∷ place 0x76 7 0 (in_ca r.sound) ∷
    place 0x77 7 0 0 ∷
    -- request 06: "The general control fields for depth become named"
    place 0x4C 3 0 (get_or depth_numbers (depth r.video) 0) ∷ [] ++
    wiring_places (wires_of r.wiring)

-- a number stands in its place of an image
abbrev pub Shows : List ℕ → Place → Type 0
Shows image f = bits_in f.high f.low (get_or image f.address 0) ≡ f.number

-- each does
abbrev pub Each : (Place → Type 0) → List Place → Type 0
Each P [] = Unit
Each P (f ∷ fs) = P f × Each P fs
