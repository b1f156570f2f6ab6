-- Document 02, request 02, in bare numbers: the board of the request, what goes without a matrix, what is refused, and the sync numbers of 000's
-- Table 32 as its Table 35 has them in the registers. What each byte of a wiring section is answered stands in `EachByte`, where it lands in
-- `Landed`.
use Rattle.std.specs.Prelude.{◌≡◌, ℕ, ◌/◌, ◌%◌, ◌≤◌, length, replicate, set}
use mathlib.Core.List.{List, [], ◌∷◌, ◌++◌, map, flat_map}
use Rattle.request.specs.Read.{read_of}
use Rattle.writes.specs.Rows.{from}
use Rattle.writes.specs.List.{full_list, finished, finished_image}
use Rattle.plan.specs.Plan.{plan_of}
use Rattle.decode.specs.Decode.{decode_of}
use Rattle.decode.specs.Theorems.{Answered}
use Rattle.promises.specs.Rules.{asked}
use Rattle.promises.specs.Worked.{zeros}

-- a wiring section, and VIC 16 in some encoding over HDMI, without sound or matrix
abbrev pub wired_to : ℕ → List ℕ → List ℕ
wired_to encoding wiring = wiring ++ (0x07 ∷ 0x10 ∷ 0x00 ∷ encoding ∷ 0x01 ∷ 0x00 ∷ 0x00 ∷ 0x00 ∷ 0x00 ∷ 0x00 ∷ [])

-- "A new camera board feeds YCbCr 4:2:2 with embedded syncs": an ID, with 10 bits, style 1, left justified, and some sync numbers; and those of
-- 1080p-60
abbrev pub camera : ℕ → List ℕ → List ℕ
camera input numbers = 0x0C ∷ input ∷ 0x01 ∷ 0x02 ∷ 0x02 ∷ flat_map (λ n. n / 256 ∷ n % 256 ∷ []) numbers

abbrev pub camera1080 : ℕ → List ℕ
camera1080 input = camera input (88 ∷ 44 ∷ 4 ∷ 5 ∷ [])

-- four fields, 12 bits, style 2, evenly distributed
abbrev pub fields_of : ℕ → List ℕ
fields_of input = 0x04 ∷ input ∷ 0x02 ∷ 0x01 ∷ 0x00 ∷ []

-- the bytes of some registers in the image that a request ends in
abbrev pub left_at : List ℕ → List ℕ → List ℕ → List ℕ
left_at image registers input = map (finished (asked input) image) registers

-- that image, from zeros; and with another byte in some register
abbrev pub image_of : List ℕ → List ℕ
image_of input = finished_image (asked input) zeros

abbrev pub decodes_with : List ℕ → ℕ × ℕ → ℕ
decodes_with input change = (decode_of (set (image_of input) change.0 change.1) zeros).refusal

-- Table 32: Hsync placement, Hsync duration, Vsync placement, Vsync duration, of 480i, 576i, 480p, 576p, 720p-60, 720p-50, 1080i-30, 1080i-25,
-- 1080p-60, 1080p-50, 1080p-24 (Frame Packing); and Table 35: 0x30 to 0x34. The two rows of 720p with frame packing are exchanged in Table 35
abbrev pub table32 : List (List ℕ)
table32 =
    (19 ∷ 62 ∷ 4 ∷ 3 ∷ []) ∷ (12 ∷ 63 ∷ 2 ∷ 3 ∷ []) ∷ (16 ∷ 62 ∷ 9 ∷ 6 ∷ []) ∷ (12 ∷ 64 ∷ 5 ∷ 5 ∷ []) ∷
    (110 ∷ 40 ∷ 5 ∷ 5 ∷ []) ∷ (440 ∷ 40 ∷ 5 ∷ 5 ∷ []) ∷ (88 ∷ 44 ∷ 2 ∷ 5 ∷ []) ∷ (528 ∷ 44 ∷ 2 ∷ 5 ∷ []) ∷
    (88 ∷ 44 ∷ 4 ∷ 5 ∷ []) ∷ (528 ∷ 44 ∷ 4 ∷ 5 ∷ []) ∷ (638 ∷ 44 ∷ 4 ∷ 5 ∷ []) ∷ []

abbrev pub table35 : List (List ℕ)
table35 =
    (0x04 ∷ 0xC3 ∷ 0xE0 ∷ 0x10 ∷ 0x03 ∷ []) ∷ (0x03 ∷ 0x03 ∷ 0xF0 ∷ 0x08 ∷ 0x03 ∷ []) ∷
    (0x04 ∷ 0x03 ∷ 0xE0 ∷ 0x24 ∷ 0x06 ∷ []) ∷ (0x03 ∷ 0x04 ∷ 0x00 ∷ 0x14 ∷ 0x05 ∷ []) ∷
    (0x1B ∷ 0x82 ∷ 0x80 ∷ 0x14 ∷ 0x05 ∷ []) ∷ (0x6E ∷ 0x02 ∷ 0x80 ∷ 0x14 ∷ 0x05 ∷ []) ∷
    (0x16 ∷ 0x02 ∷ 0xC0 ∷ 0x08 ∷ 0x05 ∷ []) ∷ (0x84 ∷ 0x02 ∷ 0xC0 ∷ 0x08 ∷ 0x05 ∷ []) ∷
    (0x16 ∷ 0x02 ∷ 0xC0 ∷ 0x10 ∷ 0x05 ∷ []) ∷ (0x84 ∷ 0x02 ∷ 0xC0 ∷ 0x10 ∷ 0x05 ∷ []) ∷
    (0x9F ∷ 0x82 ∷ 0xC0 ∷ 0x10 ∷ 0x05 ∷ []) ∷ []

pub record WiringCases : Type 0 where
  -- the board of the request, with 4:2:2 out: IDs 2, 4 and 8 are accepted; 0x15, 0x16, 0x48; each reads back, count and all
  pub board : map (λ input. (plan_of (wired_to 1 (camera1080 input)) zeros zeros).refusal) (2 ∷ 4 ∷ 8 ∷ []) ≡ 0 ∷ 0 ∷ 0 ∷ []
  pub board_leaves : map (λ input. left_at zeros (0x15 ∷ 0x16 ∷ 0x48 ∷ []) (wired_to 1 (camera1080 input))) (2 ∷ 4 ∷ 8 ∷ [])
      ≡ (0x22 ∷ 0x98 ∷ 0x10 ∷ []) ∷ (0x24 ∷ 0x98 ∷ 0x10 ∷ []) ∷ (0x28 ∷ 0x98 ∷ 0x10 ∷ []) ∷ []
  pub board_back : (room : List ℕ) → 51 ≤ length room
      → Answered (wired_to 1 (camera1080 2)) (image_of (wired_to 1 (camera1080 2))) room
      × Answered (wired_to 1 (camera1080 4)) (image_of (wired_to 1 (camera1080 4))) room
      × Answered (wired_to 1 (camera1080 8)) (image_of (wired_to 1 (camera1080 8))) room
  -- "YCbCr input needs a matrix only for RGB output": to 4:2:2 and to 4:4:4 without one, to RGB 6; "IDs 0 and 5 count as RGB": the other way round
  pub from_ycbcr : map (λ encoding. (read_of (wired_to encoding (camera1080 2))).refusal) (0 ∷ 1 ∷ 2 ∷ []) ≡ 6 ∷ 0 ∷ 0 ∷ []
  pub from_five : map (λ encoding. (read_of (wired_to encoding (fields_of 5))).refusal) (0 ∷ 1 ∷ 2 ∷ []) ≡ 0 ∷ 6 ∷ 6 ∷ []
  pub from_zero : map (λ encoding. (read_of (wired_to encoding (0x00 ∷ []))).refusal) (0 ∷ 1 ∷ 2 ∷ []) ≡ 0 ∷ 6 ∷ 6 ∷ []
  -- ID 0 in a section, in the very numbers of today's board, and with 12; an ID past 8; 12 with ID 1, 4 with ID 2; 1024; count 3; a section that
  -- ends inside
  pub id_zero : (read_of (wired_to 0 (0x04 ∷ 0x00 ∷ 0x03 ∷ 0x00 ∷ 0x00 ∷ []))).refusal ≡ 5
  pub id_zero_twelve : (read_of (wired_to 0 (camera 0 (0 ∷ 0 ∷ 0 ∷ 0 ∷ [])))).refusal ≡ 5
  pub id_nine : (read_of (wired_to 1 (fields_of 9))).refusal ≡ 5
  pub twelve_one : (read_of (wired_to 1 (camera 1 (0 ∷ 0 ∷ 0 ∷ 0 ∷ [])))).refusal ≡ 5
  pub four_two : (read_of (wired_to 1 (fields_of 2))).refusal ≡ 5
  pub beyond : map (λ numbers. (read_of (wired_to 1 (camera 2 numbers))).refusal)
      ((1023 ∷ 1023 ∷ 1023 ∷ 1023 ∷ []) ∷ (1024 ∷ 0 ∷ 0 ∷ 0 ∷ []) ∷ (0 ∷ 1024 ∷ 0 ∷ 0 ∷ []) ∷ (0 ∷ 0 ∷ 1024 ∷ 0 ∷ []) ∷ (0 ∷ 0 ∷ 0 ∷ 1024 ∷ []) ∷ [])
      ≡ 0 ∷ 5 ∷ 5 ∷ 5 ∷ 5 ∷ []
  pub count_three : (read_of (wired_to 1 (0x03 ∷ 0x01 ∷ 0x01 ∷ 0x02 ∷ []))).refusal ≡ 2
  pub inside : (read_of (0x0C ∷ 0x02 ∷ 0x01 ∷ 0x02 ∷ 0x02 ∷ 0x00 ∷ [])).refusal ≡ 1
  -- Table 32's sync numbers as Table 35 has them
  pub syncs : map (λ numbers. left_at zeros (from 0x30 5) (wired_to 1 (camera 2 numbers))) table32 ≡ table35
  -- without embedded syncs they are 0, though ones stood there; today's board: depth 11
  pub no_syncs : left_at (replicate 256 0xFF) (from 0x30 5) (wired_to 1 (fields_of 1)) ≡ 0 ∷ 0 ∷ 0 ∷ 0 ∷ 0 ∷ []
  pub today : left_at zeros (0x15 ∷ 0x16 ∷ 0x48 ∷ from 0x30 5) (wired_to 0 (0x00 ∷ [])) ≡ 0x20 ∷ 0x30 ∷ 0 ∷ 0 ∷ 0 ∷ 0 ∷ 0 ∷ 0 ∷ []
  -- an image that an older version finished, whose depth of the input is 00, decodes to nothing; so does ID 0 with a depth other than 11, ID 9, and
  -- of ID 1 a style of 00, a sync value, and its fields with ID 0 in its place
  pub older : map (decodes_with (wired_to 0 (0x00 ∷ []))) ((0x16, 0x30) ∷ (0x16, 0x00) ∷ (0x16, 0x10) ∷ (0x15, 0x29) ∷ []) ≡ 0 ∷ 11 ∷ 11 ∷ 11 ∷ []
  pub strange : map (decodes_with (wired_to 1 (fields_of 1))) ((0x16, 0xA4) ∷ (0x16, 0xA0) ∷ (0x30, 0x01) ∷ (0x15, 0x20) ∷ []) ≡ 0 ∷ 11 ∷ 11 ∷ 11 ∷ []
  -- the pairs of a list with nothing left out
  pub whole : length (full_list (asked (wired_to 0 (0x00 ∷ []))) zeros) ≡ 91
