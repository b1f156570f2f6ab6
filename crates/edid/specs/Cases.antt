-- Marked cases of request 12, in bare numbers.
use Rattle.std.specs.Prelude.{◌≡◌, List, [], ◌∷◌, ◌++◌, map, ℕ, ◌+◌, ◌-◌, length, take, set, replicate}
use Rattle.frames.specs.Frames.{checksum_of}
use Rattle.edid.specs.Numbered.{Monitor}
use Rattle.edid.specs.Numbered.{Choice}
use Rattle.edid.specs.Found.{monitor_of, choose_of}

-- a base block that says nothing: its header, zeros, and the byte that makes its sum zero
abbrev pub bare_base : List ℕ
bare_base = (0x00 ∷ 0xFF ∷ 0xFF ∷ 0xFF ∷ 0xFF ∷ 0xFF ∷ 0xFF ∷ 0x00 ∷ []) ++ replicate 119 0x00 ++ (0x06 ∷ [])

-- an extension: its tag, revision and offset, a byte of flags, some bytes and then zeros, and the byte that makes its sum zero; and the EDID
abbrev pub sealed : List ℕ → List ℕ
sealed bytes = bytes ++ (checksum_of bytes ∷ [])

abbrev pub extended : ℕ → ℕ → ℕ → List ℕ → List ℕ
extended tag revision offset bytes = bare_base ++ sealed (tag ∷ revision ∷ offset ∷ 0x40 ∷ (bytes ++ replicate (123 - length bytes) 0x00))

-- a CEA-861 extension of revision 3 with these data blocks
abbrev pub screen : List ℕ → List ℕ
screen bytes = extended 0x02 0x03 (4 + length bytes) bytes

-- VIC 16, native, and VIC 4; linear PCM of two channels at 44.1 and 48 kHz
abbrev pub plain_blocks : List ℕ
plain_blocks = 0x42 ∷ 0x90 ∷ 0x04 ∷ 0x23 ∷ 0x09 ∷ 0x06 ∷ 0x07 ∷ []

-- VICs 16 and 4, and an audio block of these bytes
abbrev pub with_audio : ℕ → List ℕ → List ℕ
with_audio count bytes = screen ((0x42 ∷ 0x10 ∷ 0x04 ∷ []) ++ (0x20 + count) ∷ bytes)

-- requests from today's board: VIC, family, rate, channels, coherent; and without sound, in a mode, with a depth byte
abbrev pub asking : ℕ → ℕ → ℕ → ℕ → ℕ → List ℕ
asking vic family rate channels coherent = 0x00 ∷ 0x07 ∷ vic ∷ family ∷ 0x00 ∷ 0x01 ∷ 0x00 ∷ 0x00 ∷ 0x00 ∷ 0x03 ∷ rate ∷ channels ∷ coherent ∷ 0x00 ∷ []

abbrev pub silently : ℕ → ℕ → List ℕ
silently vic depth = 0x00 ∷ 0x07 ∷ vic ∷ 0x00 ∷ 0x00 ∷ 0x01 ∷ 0x00 ∷ depth ∷ 0x00 ∷ 0x00 ∷ 0x00 ∷ []

-- document 01's example, and one wish: VIC 16
abbrev pub stereo : List ℕ
stereo = asking 0x10 0x00 0x02 0x02 0x01

abbrev pub wish16 : List ℕ
wish16 = 0x10 ∷ 0x00 ∷ []

-- the numbers of an overview, and of a choice
abbrev pub seen : Monitor → List ℕ
seen m = m.refusal ∷ m.vics_low ∷ m.vics_high ∷ m.rates_2 ∷ m.rates_8 ∷ []

abbrev pub chosen : Choice → List ℕ
chosen c = c.refusal ∷ c.place ∷ c.at ∷ []

abbrev pub refused_as : List (List ℕ) → List ℕ
refused_as edids = map (λ edid. (monitor_of edid).refusal) edids

-- what a request and wishes are answered on the plain screen
abbrev pub on_plain : List ℕ → List ℕ → List ℕ
on_plain request wishes = chosen (choose_of (screen plain_blocks) request wishes)

-- a request after a wiring section, YCbCr 4:2:2 in and out, without sound
abbrev pub wired : List ℕ → List ℕ
wired section = section ++ (0x07 ∷ 0x00 ∷ 0x00 ∷ 0x01 ∷ 0x01 ∷ 0x00 ∷ 0x00 ∷ 0x00 ∷ 0x00 ∷ 0x00 ∷ [])

pub record EdidCases : Type 0 where
  -- the plain screen: VICs 4 and 16, with two channels rates 1 and 2; and the example on it
  pub plainly : seen (monitor_of (screen plain_blocks)) ≡ 0 ∷ 65552 ∷ 0 ∷ 6 ∷ 0 ∷ []
  pub fits : on_plain stereo wish16 ≡ 0 ∷ 0 ∷ 2 ∷ []
  -- VICs 1, 31, 32, 63, and 64 and 0, which have no bit; every rate with eight channels, so with two
  pub edges : seen (monitor_of (screen (0x46 ∷ 0x01 ∷ 0x9F ∷ 0x20 ∷ 0xBF ∷ 0x40 ∷ 0x80 ∷ 0x23 ∷ 0x0F ∷ 0x7F ∷ 0x07 ∷ [])))
      ≡ 0 ∷ 2147483650 ∷ 2147483649 ∷ 127 ∷ 127 ∷ []
  -- a base block alone says nothing
  pub alone : (seen (monitor_of bare_base) ≡ 0 ∷ 0 ∷ 0 ∷ 0 ∷ 0 ∷ []) × (chosen (choose_of bare_base stereo wish16) ≡ 24 ∷ 0 ∷ 0 ∷ [])
  -- 21: lengths, and each byte of the header
  pub lengths : refused_as (map (λ n. take n (screen plain_blocks ++ (0x00 ∷ []))) (0 ∷ 127 ∷ 128 ∷ 129 ∷ 255 ∷ 256 ∷ 257 ∷ [])) ≡ 21 ∷ 21 ∷ 0 ∷ 21 ∷ 21 ∷ 0 ∷ 21 ∷ []
  pub headers : refused_as (map (λ i. set (screen plain_blocks) i 0x01) (0 ∷ 1 ∷ 2 ∷ 3 ∷ 4 ∷ 5 ∷ 6 ∷ 7 ∷ [])) ≡ replicate 8 21
  -- 22: each block by its own sum; and not both together
  pub sums : refused_as (set bare_base 127 0x05 ∷ set (screen plain_blocks) 127 0x05 ∷ set (screen plain_blocks) 255 0x00 ∷ set (set (screen plain_blocks) 127 0x07) 131 0x3F ∷ []) ≡ replicate 4 22
  -- byte 126, the number of extensions, is not looked at
  pub uncounted : refused_as (set (set bare_base 126 0x01) 127 0x05 ∷ []) ≡ 0 ∷ []
  -- 23: the tag; offsets 1 to 3, and above 127, in revision 1 too
  pub tags : refused_as (map (λ tag. extended tag 0x03 0x0B plain_blocks) (0x00 ∷ 0x01 ∷ 0x02 ∷ 0x03 ∷ 0x70 ∷ [])) ≡ 23 ∷ 23 ∷ 0 ∷ 23 ∷ 23 ∷ []
  pub offsets : refused_as (map (λ offset. extended 0x02 0x03 offset []) (0 ∷ 1 ∷ 2 ∷ 3 ∷ 4 ∷ 127 ∷ 128 ∷ 255 ∷ [])) ≡ 0 ∷ 23 ∷ 23 ∷ 23 ∷ 0 ∷ 0 ∷ 23 ∷ 23 ∷ []
  pub old_offsets : refused_as (map (λ offset. extended 0x02 0x01 offset []) (0 ∷ 1 ∷ 3 ∷ 4 ∷ 127 ∷ 128 ∷ [])) ≡ 0 ∷ 23 ∷ 23 ∷ 0 ∷ 0 ∷ 23 ∷ []
  -- a block that ends one byte too late; the same with the offset one more
  pub too_late : refused_as (map (λ offset. extended 0x02 0x03 offset plain_blocks) (7 ∷ 8 ∷ 9 ∷ 10 ∷ 11 ∷ 12 ∷ [])) ≡ 0 ∷ 23 ∷ 23 ∷ 23 ∷ 0 ∷ 0 ∷ []
  -- "spoils the extension": what stands before the bad block counts for nothing
  pub spoiled : chosen (choose_of (extended 0x02 0x03 0x0A plain_blocks) stereo wish16) ≡ 23 ∷ 0 ∷ 0 ∷ []
  -- revisions below 3 have no data blocks, so none runs past its end; nor has offset 0
  pub revisions : map (λ revision. chosen (choose_of (extended 0x02 revision 0x0B plain_blocks) stereo wish16)) (0 ∷ 1 ∷ 2 ∷ 3 ∷ 4 ∷ [])
      ≡ (24 ∷ 0 ∷ 0 ∷ []) ∷ (24 ∷ 0 ∷ 0 ∷ []) ∷ (24 ∷ 0 ∷ 0 ∷ []) ∷ (0 ∷ 0 ∷ 2 ∷ []) ∷ (0 ∷ 0 ∷ 2 ∷ []) ∷ []
  pub old_blocks : refused_as (extended 0x02 0x02 0x0A plain_blocks ∷ []) ≡ 0 ∷ []
  pub no_offset : chosen (choose_of (extended 0x02 0x03 0x00 plain_blocks) stereo wish16) ≡ 24 ∷ 0 ∷ 0 ∷ []
  -- 21 before 22 before 23 before 24
  pub order : map (λ edid. chosen (choose_of edid [] []))
      (set (set (extended 0x01 0x03 0x0B plain_blocks) 0 0x01) 128 0x05 ∷ set (extended 0x01 0x03 0x0B plain_blocks) 127 0x00 ∷ extended 0x01 0x03 0x0B plain_blocks ∷ screen plain_blocks ∷ [])
      ≡ (21 ∷ 0 ∷ 0 ∷ []) ∷ (22 ∷ 0 ∷ 0 ∷ []) ∷ (23 ∷ 0 ∷ 0 ∷ []) ∷ (24 ∷ 0 ∷ 0 ∷ []) ∷ []
  -- wishes: none, an odd byte, sixteen of which the last fits, seventeen; and wrong wishes before a wrong sum
  pub no_wish : on_plain stereo [] ≡ 24 ∷ 0 ∷ 0 ∷ []
  pub odd_wish : on_plain stereo (0x10 ∷ []) ≡ 21 ∷ 0 ∷ 0 ∷ []
  pub sixteen : on_plain stereo (replicate 30 0x05 ++ wish16) ≡ 0 ∷ 15 ∷ 2 ∷ []
  pub seventeen : on_plain stereo (replicate 32 0x05 ++ wish16) ≡ 21 ∷ 0 ∷ 0 ∷ []
  pub wishes_first : chosen (choose_of (set (screen plain_blocks) 127 0x05) stereo (0x10 ∷ [])) ≡ 21 ∷ 0 ∷ 0 ∷ []
  -- the first that fits: VIC 5 is not listed, VIC 4 comes before VIC 16
  pub first : on_plain stereo (0x05 ∷ 0x00 ∷ 0x04 ∷ 0x00 ∷ 0x10 ∷ 0x00 ∷ []) ≡ 0 ∷ 1 ∷ 2 ∷ []
  -- a family that is not offered, and one in which there is no exact pair: VIC 4 at 32 kHz, coherent
  pub families : chosen (choose_of (with_audio 3 (0x09 ∷ 0x01 ∷ 0x07 ∷ [])) (asking 0x00 0x00 0x00 0x02 0x01) (0x04 ∷ 0x02 ∷ 0x04 ∷ 0x01 ∷ 0x04 ∷ 0x00 ∷ [])) ≡ 0 ∷ 2 ∷ 2 ∷ []
  -- the request's own VIC counts for nothing: 0 is mended, and one that is listed does not help
  pub mended : on_plain (asking 0x00 0xFF 0x02 0x02 0x01) wish16 ≡ 0 ∷ 0 ∷ 2 ∷ []
  pub own_vic : on_plain stereo (0x05 ∷ 0x00 ∷ []) ≡ 24 ∷ 0 ∷ 0 ∷ []
  -- refused whatever the wish: 1, 2, 3, 5, 6, and with this one 17 (36 bits, twice) and 20 (VIC 2, eight channels at 192 kHz)
  pub never : map (λ request. chosen (choose_of (screen plain_blocks) request wish16))
      (take 13 stereo ∷ set stereo 0 0x05 ∷ (stereo ++ (0x00 ∷ [])) ∷ set stereo 6 0x02 ∷ set stereo 5 0x00 ∷ silently 0x10 0x12 ∷ [])
      ≡ replicate 6 (24 ∷ 0 ∷ 0 ∷ [])
  pub too_much : map (λ wish. chosen (choose_of (screen (0x42 ∷ 0x02 ∷ 0x10 ∷ 0x23 ∷ 0x0F ∷ 0x7F ∷ 0x07 ∷ [])) (asking 0x00 0x00 0x06 0x08 0x01) wish)) ((0x02 ∷ 0x00 ∷ []) ∷ wish16 ∷ [])
      ≡ (24 ∷ 0 ∷ 0 ∷ []) ∷ (0 ∷ 0 ∷ 2 ∷ []) ∷ []
  -- sound: eight channels where two are covered; another rate; none, which is always covered, also by a screen without audio
  pub eight_wanted : on_plain (asking 0x10 0x00 0x02 0x08 0x01) wish16 ≡ 24 ∷ 0 ∷ 0 ∷ []
  pub other_rate : on_plain (asking 0x10 0x00 0x00 0x02 0x01) wish16 ≡ 24 ∷ 0 ∷ 0 ∷ []
  pub silence : (on_plain (silently 0x00 0x00) wish16 ≡ 0 ∷ 0 ∷ 2 ∷ []) × (chosen (choose_of (screen (0x41 ∷ 0x10 ∷ [])) (silently 0x00 0x00) wish16) ≡ 0 ∷ 0 ∷ 2 ∷ [])
      × (chosen (choose_of (screen (0x41 ∷ 0x10 ∷ [])) stereo wish16) ≡ 24 ∷ 0 ∷ 0 ∷ [])
  -- eight channels at 192 kHz: the rate in one descriptor and the channels in another; in one; seven channels; a format that is not linear PCM;
  -- a second descriptor; one that lacks its third byte
  pub together : map (λ edid. chosen (choose_of edid (asking 0x10 0x00 0x06 0x08 0x01) wish16))
      (with_audio 6 (0x09 ∷ 0x7F ∷ 0x07 ∷ 0x0F ∷ 0x3F ∷ 0x07 ∷ []) ∷ with_audio 3 (0x0F ∷ 0x40 ∷ 0x07 ∷ []) ∷ with_audio 3 (0x0E ∷ 0x7F ∷ 0x07 ∷ []) ∷
      with_audio 3 (0x17 ∷ 0x7F ∷ 0x07 ∷ []) ∷ with_audio 6 (0x17 ∷ 0x7F ∷ 0x07 ∷ 0x0F ∷ 0x40 ∷ 0x00 ∷ []) ∷ with_audio 2 (0x0F ∷ 0x40 ∷ []) ∷ [])
      ≡ (24 ∷ 0 ∷ 0 ∷ []) ∷ (0 ∷ 0 ∷ 2 ∷ []) ∷ (24 ∷ 0 ∷ 0 ∷ []) ∷ (24 ∷ 0 ∷ 0 ∷ []) ∷ (0 ∷ 0 ∷ 2 ∷ []) ∷ (24 ∷ 0 ∷ 0 ∷ []) ∷ []
  -- blocks of other tags are passed over, and do not end the walk: a vendor's, speakers, an extended one, empty ones
  pub others : seen (monitor_of (screen ((0x65 ∷ 0x90 ∷ 0x90 ∷ 0x90 ∷ 0x90 ∷ 0x90 ∷ 0x83 ∷ 0x90 ∷ 0x90 ∷ 0x90 ∷ 0xE2 ∷ 0x09 ∷ 0x7F ∷ 0x40 ∷ 0x20 ∷ []) ++ plain_blocks)))
      ≡ 0 ∷ 65552 ∷ 0 ∷ 6 ∷ 0 ∷ []
  -- a wiring section moves the place: of four fields, and of twelve bytes for an ID with embedded syncs
  pub places : map (λ section. on_plain (wired section) wish16)
      ((0x04 ∷ 0x01 ∷ 0x02 ∷ 0x01 ∷ 0x00 ∷ []) ∷ (0x0C ∷ 0x02 ∷ 0x01 ∷ 0x02 ∷ 0x02 ∷ replicate 8 0x00) ∷ [])
      ≡ (0 ∷ 0 ∷ 6 ∷ []) ∷ (0 ∷ 0 ∷ 14 ∷ []) ∷ []
