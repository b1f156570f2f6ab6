-- What source document 000 prints: the rows of the register map (section 5) that are typed read-only, Table 14, and the map's rows that
-- are marked fixed or must-be-set. Each stands as it is printed and in that order, whatever else is said of its bits: see `Precedence`.
-- A row decides nothing of a bit that an earlier list has. So no statement depends on the number of a fixed row in a read-only register
-- (such as 0x42[4], 0xAE[7:5]), in one of Table 14 (such as 0x98, 0x9D[1:0]) or in a named field (such as 0x55[7], 0x70[2:0], 0x73 to 0x77).
use Rattle.std.specs.Prelude.{List, [], ◌∷◌, ◌++◌, ℕ, zero, suc, ◌+◌, ◌-◌, ◌*◌, ◌^◌}
use Rattle.map.specs.Map.{fixed98, fixed9a, fixed9c, fixed9d, fixed_a2, fixed_a3, fixed_e0, fixed_i2c_address}
use Rattle.registers.specs.Field.{Field, field, bytes}

-- a row whose type is printed as RO: the bits [high:low] of the register
abbrev pub ro : ℕ → ℕ → ℕ → Field
ro address high low = field address (2 ^ (high + 1) - 2 ^ low)

-- a row as it is printed: the bits [high:low] of the register must be set to the number
abbrev pub must_be : ℕ → ℕ → ℕ → ℕ → Field
must_be address high low number = record { address = address; mask = 2 ^ (high + 1) - 2 ^ low; value = number * 2 ^ low }

-- Table 14, "Fixed Registers That Must Be Set"
abbrev pub table14_bits : List Field
table14_bits =
    must_be fixed98 7 0 0x03 ∷
    must_be fixed9a 7 1 0b1110000 ∷
    must_be fixed9c 7 0 0x30 ∷
    must_be fixed9d 1 0 0b01 ∷
    must_be fixed_a2 7 0 0xA4 ∷
    must_be fixed_a3 7 0 0xA4 ∷
    must_be fixed_e0 7 0 0xD0 ∷
    must_be fixed_i2c_address 7 0 0x00 ∷
    []

-- count registers from `first` on, each to be set to 0 whole
abbrev pub zero_bytes : ℕ → ℕ → List Field
zero_bytes first zero = []
zero_bytes first (suc count) = must_be first 7 0 0x00 ∷ zero_bytes (first + 1) count

-- "A bit typed read-only". Where the map prints one type for several rows of a register (0x3D, 0x42, 0x4C, 0xB8), it is the type of each.
abbrev pub read_only_fields : List Field
read_only_fields =
    ro 0x00 7 0 ∷  -- Chip Revision
    ro 0x04 7 4 ∷  -- SPDIF Sampling Frequency
    ro 0x04 3 0 ∷ [] ++  -- CTS Automatic
    bytes 0x05 2 ++  -- CTS Automatic
    ro 0x3D 7 6 ∷  -- Pixel Repeat to Rx
    ro 0x3D 5 0 ∷  -- VIC to Rx
    ro 0x3E 7 2 ∷  -- VIC Detected
    ro 0x3F 7 5 ∷  -- Auxiliary VIC Detected
    ro 0x3F 4 3 ∷  -- Progressive Mode Information
    ro 0x42 7 7 ∷  -- Power Down Polarity
    ro 0x42 6 6 ∷  -- HPD State
    ro 0x42 5 5 ∷  -- Monitor Sense State
    ro 0x42 4 4 ∷  -- Fixed
    ro 0x42 3 3 ∷  -- I2S 32 Bit Mode Detect
    ro 0x42 2 2 ∷  -- Fixed
    ro 0x4C 7 4 ∷  -- Pixel Packing
    ro 0x4C 3 0 ∷  -- Color Depth; named by request 06
    ro 0x9E 4 4 ∷  -- PLL Lock Status
    ro 0x9E 3 0 ∷  -- Fixed
    ro 0xA0 7 0 ∷  -- Fixed
    ro 0xAC 7 0 ∷  -- Fixed
    ro 0xAD 7 0 ∷  -- Fixed
    ro 0xAE 7 5 ∷ [] ++  -- Fixed
    bytes 0xB0 8 ++  -- An / AKSV
    ro 0xB8 7 7 ∷  -- Fixed
    ro 0xB8 6 6 ∷  -- HDCP Encryption Status
    ro 0xB8 5 5 ∷  -- Fixed
    ro 0xB8 4 4 ∷  -- Key Read Error
    ro 0xBC 7 0 ∷  -- Fixed
    ro 0xBD 7 0 ∷  -- Fixed
    ro 0xBE 7 0 ∷  -- BCAPS
    ro 0xBF 7 0 ∷  -- BKSV Byte 0
    ro 0xC0 7 0 ∷  -- BKSV Byte 1
    ro 0xC1 7 0 ∷  -- BKSV Byte 2
    ro 0xC2 7 0 ∷  -- BKSV Byte 3
    ro 0xC3 7 0 ∷  -- BKSV Byte 4
    ro 0xC6 7 0 ∷  -- Fixed
    ro 0xC7 6 0 ∷  -- BKSV Count
    ro 0xC8 7 4 ∷  -- DDC Controller Error
    ro 0xC8 3 0 ∷  -- DDC Controller State
    ro 0xCA 7 0 ∷  -- HDCP BSTATUS[15:8]
    ro 0xCB 7 0 ∷  -- HDCP BSTATUS[7:0]
    ro 0xCC 2 0 ∷  -- Fixed
    ro 0xF5 7 0 ∷  -- Chip ID High Byte
    ro 0xF6 7 0 ∷  -- Chip ID Low Byte
    ro 0xF7 7 4 ∷  -- Reserved
    []

-- "bits the map marks fixed or must-be-set": the row's name is "Fixed", or its text "Must be set to ..", "Must be default ..", "Set to ..".
-- The number is the one that the text gives, else the default. No order, so not here: "should be" (0x12[7], 0x52, 0x74[4:2], 0xD0[6:4],
-- 0xF9), an order for one case (0x3B[6:5] "unless", 0xD0[3:2]), "Reserved in CEA 861D" (0x4D to 0x51), "Fixed" as a value's name (0x12).
abbrev pub fixed_fields : List Field
fixed_fields =
    must_be 0x0B 4 1 0b0111 ∷  -- Fixed
    must_be 0x16 6 6 0b0 ∷  -- Reserved
    must_be 0x17 7 7 0b0 ∷  -- Fixed
    must_be 0x17 4 3 0b00 ∷  -- Reserved @ 00b
    must_be 0x3B 7 7 0b1 ∷  -- Reserved @ 1b
    must_be 0x3B 0 0 0b0 ∷  -- Reserved @ 0b
    must_be 0x41 5 5 0b0 ∷  -- Fixed
    must_be 0x41 4 4 0b1 ∷  -- Reserved @ 1b
    must_be 0x41 3 2 0b00 ∷  -- Fixed
    must_be 0x41 0 0 0b0 ∷  -- Fixed
    must_be 0x42 4 4 0b1 ∷  -- Fixed
    must_be 0x42 2 2 0b0 ∷  -- Fixed
    must_be 0x44 7 7 0b0 ∷  -- Reserved @ 0b
    must_be 0x44 2 1 0b00 ∷  -- Fixed
    must_be 0x48 7 7 0b0 ∷  -- Reserved
    must_be 0x55 7 7 0b0 ∷  -- AVI Byte 1 bit 7
    must_be 0x58 7 7 0b0 ∷ [] ++  -- Byte 4 Bit 7
    zero_bytes 0x62 14 ++  -- Byte 14 to 27
    must_be 0x70 2 0 0b001 ∷  -- Audio InfoFrame Version: "Set to 001"
    must_be 0x73 7 4 0b0000 ∷  -- Coding Type
    must_be 0x73 3 3 0b0 ∷  -- Byte 1 bit 3
    must_be 0x74 7 5 0b000 ∷  -- Byte 2 bit [7:5]
    must_be 0x74 1 0 0b00 ∷  -- Sample Size
    must_be 0x75 7 0 0b00000000 ∷  -- Byte 3
    must_be 0x77 2 2 0b0 ∷  -- Byte 5 bit [2]
    must_be 0x77 1 0 0b00 ∷ [] ++  -- LFEPBL, "Set to 0b0"
    zero_bytes 0x78 5 ++  -- Byte 6 to 10
    must_be 0x94 3 3 0b0 ∷  -- Fixed
    must_be 0x94 0 0 0b0 ∷  -- Fixed
    must_be 0x96 3 3 0b0 ∷  -- Fixed
    must_be 0x96 0 0 0b0 ∷  -- Fixed @ 0b
    must_be 0x98 7 0 0x03 ∷  -- Fixed
    must_be 0x99 7 0 0b00000010 ∷  -- Fixed
    must_be 0x9A 7 1 0b1110000 ∷  -- Fixed
    must_be 0x9B 5 0 0b011000 ∷  -- Fixed
    must_be 0x9C 7 0 0x30 ∷  -- Fixed
    must_be 0x9D 7 4 0b0110 ∷  -- Fixed
    must_be 0x9D 1 0 0b01 ∷  -- Fixed
    must_be 0x9E 3 0 0b0000 ∷  -- Fixed
    must_be 0x9F 7 0 0b00000000 ∷  -- Fixed
    must_be 0xA0 7 0 0b00000000 ∷  -- Fixed
    must_be 0xA1 7 7 0b0 ∷  -- Fixed
    must_be 0xA2 7 0 0xA4 ∷  -- Fixed
    must_be 0xA3 7 0 0xA4 ∷  -- Fixed
    must_be 0xA4 7 1 0b0000100 ∷  -- Fixed
    must_be 0xA5 7 1 0b0000010 ∷  -- Fixed
    must_be 0xA6 7 0 0b00000000 ∷  -- Fixed
    must_be 0xA7 7 0 0b00000000 ∷  -- Fixed
    must_be 0xA8 7 0 0b00000000 ∷  -- Fixed
    must_be 0xA9 7 1 0b0000000 ∷  -- Fixed
    must_be 0xAA 7 0 0b00000000 ∷  -- Fixed
    must_be 0xAB 7 3 0b01000 ∷  -- Fixed
    must_be 0xAC 7 0 0b00000000 ∷  -- Fixed
    must_be 0xAD 7 0 0b00000000 ∷  -- Fixed
    must_be 0xAE 7 5 0b010 ∷  -- Fixed
    must_be 0xAF 6 5 0b00 ∷  -- Fixed
    must_be 0xAF 3 2 0b01 ∷  -- Fixed
    must_be 0xAF 0 0 0b0 ∷  -- Fixed
    must_be 0xB8 7 7 0b0 ∷  -- Fixed
    must_be 0xB8 5 5 0b0 ∷  -- Fixed
    must_be 0xB9 7 0 0b00000000 ∷  -- Fixed
    must_be 0xBA 3 3 0b0 ∷  -- Fixed
    must_be 0xBA 2 2 0b0 ∷  -- Display AKSV
    must_be 0xBB 7 0 0b00000000 ∷  -- Fixed
    must_be 0xBC 7 0 0b00000000 ∷  -- Fixed
    must_be 0xBD 7 0 0b00000000 ∷  -- Fixed
    must_be 0xC5 7 0 0b00000000 ∷  -- Fixed
    must_be 0xC6 7 0 0b00000000 ∷  -- Fixed
    must_be 0xC7 7 7 0b0 ∷  -- Fixed
    must_be 0xCC 2 0 0b000 ∷  -- Fixed
    must_be 0xCD 7 4 0b0000 ∷  -- Fixed
    must_be 0xCE 7 0 0b00000001 ∷  -- Fixed
    must_be 0xCF 7 0 0b00000100 ∷  -- Fixed
    must_be 0xD0 0 0 0b0 ∷  -- Fixed
    must_be 0xD1 7 0 0b11111111 ∷  -- Fixed
    must_be 0xD2 7 0 0b10000000 ∷  -- Fixed
    must_be 0xD3 7 0 0b10000000 ∷  -- Fixed
    must_be 0xD4 7 0 0b10000000 ∷  -- Fixed
    must_be 0xD5 7 4 0b0000 ∷  -- Fixed
    must_be 0xD6 5 5 0b0 ∷  -- Fixed
    must_be 0xD6 3 1 0b000 ∷  -- Fixed
    must_be 0xDC 4 0 0b00000 ∷  -- Fixed
    must_be 0xDD 7 4 0b0000 ∷  -- Fixed
    must_be 0xDE 7 4 0b0001 ∷  -- Fixed
    must_be 0xDE 2 1 0b00 ∷  -- Fixed
    must_be 0xDF 6 1 0b000000 ∷  -- Fixed
    must_be 0xE0 7 0 0xD0 ∷  -- Fixed
    must_be 0xE2 3 1 0b000 ∷  -- Fixed
    must_be 0xE3 7 1 0b0000000 ∷  -- Fixed
    must_be 0xE4 7 2 0b011000 ∷  -- Fixed
    must_be 0xFA 1 0 0b00 ∷  -- Fixed
    []
