-- Document 01's worked example, "What the station's library does", and request 09 on it; requests 06 and 11 in bare bytes.
use Rattle.std.specs.Prelude.{◌≡◌, List, [], ◌∷◌, ◌++◌, ℕ, set, replicate}
use Rattle.request.specs.Read.{read_of}
use Rattle.writes.specs.List.{finished_image}
use Rattle.plan.specs.Wanted.{wanted}
use Rattle.promises.specs.LentBytes.{bytes_left}

-- the bytes `00 07 10 00 00 01 00 00 00 03 02 02 01 00`
abbrev pub example : List ℕ
example = 0x00 ∷ 0x07 ∷ 0x10 ∷ 0x00 ∷ 0x00 ∷ 0x01 ∷ 0x00 ∷ 0x00 ∷ 0x00 ∷ 0x03 ∷ 0x02 ∷ 0x02 ∷ 0x01 ∷ 0x00 ∷ []

abbrev pub zeros : List ℕ
zeros = replicate 256 0

-- the image that it ends in, from zeros
abbrev pub example_done : List ℕ
example_done = finished_image (wanted (read_of example).request) zeros

-- a list in which only some registers of the AVI group and some others differ, in bare bytes: mute, the coefficient hold up, kept up and down,
-- the AVI hold up and down, the audio hold up and down, open
abbrev pub example_list : List ℕ → List ℕ → List ℕ
example_list avi others =
    0x4B ∷ 0x40 ∷ 0x1A ∷ 0x20 ∷ 0x1A ∷ 0x20 ∷ 0x1A ∷ 0x00 ∷ 0x4A ∷ 0xC0 ∷ [] ++ avi ++
    0x4A ∷ 0x80 ∷ 0x4A ∷ 0xA0 ∷ 0x4A ∷ 0x80 ∷ [] ++ others ++ 0x4B ∷ 0x80 ∷ []

-- request 09, "All writes to the mute register, 0x4A and 0x1A stay": on that image the example is nine writes; with sound that is not
-- coherent four more stand before the last, for CTS, 148500, and 0x0A[7] become 0
abbrev pub Few : Type 0
Few =
    (bytes_left example example_done zeros ≡ example_list [] [])
    × (bytes_left (set example 12 0) example_done zeros ≡ example_list [] (0x07 ∷ 0x00 ∷ 0x08 ∷ 0x00 ∷ 0x09 ∷ 0x00 ∷ 0x0A ∷ 0x00 ∷ []))

-- request 06, of VIC 2, silent, at 24 bits and no repetition, on the image that it ends in, where the read-only bits of 0x4C are 1: 30 bits
-- twice, and 36 bits four times. The checksum and PR change, 0x3B and 0x4C
abbrev pub vic2 : ℕ → ℕ → List ℕ
vic2 pixel edition = 0x00 ∷ 0x07 ∷ 0x02 ∷ 0x00 ∷ 0x00 ∷ 0x01 ∷ 0x00 ∷ pixel ∷ edition ∷ 0x00 ∷ 0x00 ∷ []

abbrev pub vic2_done : List ℕ
vic2_done = set (finished_image (wanted (read_of (vic2 0x00 0x00)).request) zeros) 0x4C 0xF0

abbrev pub FewDeep : Type 0
FewDeep =
    (bytes_left (vic2 0x11 0x00) vic2_done zeros ≡ example_list (0x54 ∷ 0x40 ∷ 0x59 ∷ 0x01 ∷ []) (0x3B ∷ 0xCA ∷ 0x4C ∷ 0xF5 ∷ []))
    × (bytes_left (vic2 0x22 0x00) vic2_done zeros ≡ example_list (0x54 ∷ 0x3E ∷ 0x59 ∷ 0x03 ∷ []) (0x3B ∷ 0xD4 ∷ 0x4C ∷ 0xF6 ∷ []))

-- request 11, on that image: E that asks for nothing changes nothing; with quantisation and type 1, the checksum and data byte 5 change; and
-- so with type 3 beside a PR of 3
abbrev pub FewEditions : Type 0
FewEditions =
    (bytes_left (vic2 0x00 0x01) vic2_done zeros ≡ example_list [] [])
    × (bytes_left (vic2 0x00 0x15) vic2_done zeros ≡ example_list (0x54 ∷ 0xF1 ∷ 0x59 ∷ 0x50 ∷ []) [])
    × (bytes_left (vic2 0x22 0x31) vic2_done zeros ≡ example_list (0x54 ∷ 0x0E ∷ 0x59 ∷ 0x33 ∷ []) (0x3B ∷ 0xD4 ∷ 0x4C ∷ 0xF6 ∷ []))
