-- Marked cases of request 07, in bare numbers: a float is given by its 32 bits.
use Rattle.std.specs.Prelude.{◌≡◌, List, [], ◌∷◌, map, ℕ, ◌+◌, ◌*◌, get_or, drop, replicate, set, Float}
use Rattle.std.specs.Float.{binary32}
use Rattle.std.specs.Float.Ieee.{of_bits}
use Rattle.meter.specs.Numbers.{minus_zero, numbers_of}
use Rattle.meter.specs.Found.{converted, meter_of, meter_buffer}

abbrev f32 : ℕ → Float
f32 bits = of_bits binary32 bits

-- twelve zeros, but for number i
abbrev pub alone : ℕ → ℕ → List Float
alone i bits = set (replicate 12 (f32 0)) i (f32 bits)

-- room for the 25 bytes, with a number in it that no answer below has
abbrev pub room : ℕ → List ℕ
room n = replicate n 0xEE

-- all that comes of a call: the refusal, the count, and the buffer as it is left
abbrev pub outcome : List Float → List ℕ → List ℕ
outcome numbers buffer = (meter_of numbers buffer).refusal ∷ (meter_of numbers buffer).count ∷ meter_buffer numbers buffer

-- of one number: the refusal, the mode, and the two bytes of number i
abbrev pub meter_answered : ℕ → ℕ → List ℕ
meter_answered i bits =
    let left : List ℕ = meter_buffer (alone i bits) (room 25) in
    (meter_of (alone i bits) (room 25)).refusal ∷ get_or left 0 0 ∷ get_or left (2 * i + 1) 0 ∷ get_or left (2 * i + 2) 0 ∷ []

-- a row: the place of a number (0 is A1, 3 is A4, 11 is C4) and its bits; the refusal, the mode and the number's two bytes
abbrev pub meter_rows : List (List ℕ)
meter_rows =
    -- A1: 0.5/4096, a tie
    (0 ∷ 0x39000000 ∷ 0 ∷ 0 ∷ 0x00 ∷ 0x00 ∷ []) ∷
    -- A1: the next float
    (0 ∷ 0x39000001 ∷ 0 ∷ 0 ∷ 0x00 ∷ 0x01 ∷ []) ∷
    -- A1: the float before 1.5/4096
    (0 ∷ 0x39BFFFFF ∷ 0 ∷ 0 ∷ 0x00 ∷ 0x01 ∷ []) ∷
    -- A1: 1.5/4096, a tie
    (0 ∷ 0x39C00000 ∷ 0 ∷ 0 ∷ 0x00 ∷ 0x02 ∷ []) ∷
    -- A2: 2.5/4096, a tie
    (1 ∷ 0x3A200000 ∷ 0 ∷ 0 ∷ 0x00 ∷ 0x02 ∷ []) ∷
    -- A3: -0.5/4096, a tie
    (2 ∷ 0xB9000000 ∷ 0 ∷ 0 ∷ 0x00 ∷ 0x00 ∷ []) ∷
    -- A3: -1.5/4096, a tie
    (2 ∷ 0xB9C00000 ∷ 0 ∷ 0 ∷ 0xFF ∷ 0xFE ∷ []) ∷
    -- B1: -2.5/4096, a tie
    (4 ∷ 0xBA200000 ∷ 0 ∷ 0 ∷ 0xFF ∷ 0xFE ∷ []) ∷
    -- A1: the largest that mode 0 takes
    (0 ∷ 0x3F7FF7FF ∷ 0 ∷ 0 ∷ 0x0F ∷ 0xFF ∷ []) ∷
    -- A1: 4095.5/4096, a tie at 4096
    (0 ∷ 0x3F7FF800 ∷ 0 ∷ 1 ∷ 0x08 ∷ 0x00 ∷ []) ∷
    -- A1: the largest below 1, at 4096
    (0 ∷ 0x3F7FFFFF ∷ 0 ∷ 1 ∷ 0x08 ∷ 0x00 ∷ []) ∷
    -- A1: 1
    (0 ∷ 0x3F800000 ∷ 0 ∷ 1 ∷ 0x08 ∷ 0x00 ∷ []) ∷
    -- A1: 2048.5/2048, in mode 1 a tie
    (0 ∷ 0x3F800800 ∷ 0 ∷ 1 ∷ 0x08 ∷ 0x00 ∷ []) ∷
    -- A1: 2049.5/2048, in mode 1 a tie
    (0 ∷ 0x3F801800 ∷ 0 ∷ 1 ∷ 0x08 ∷ 0x02 ∷ []) ∷
    -- A1: the largest below 2
    (0 ∷ 0x3FFFFFFF ∷ 0 ∷ 2 ∷ 0x08 ∷ 0x00 ∷ []) ∷
    -- A1: 2
    (0 ∷ 0x40000000 ∷ 0 ∷ 2 ∷ 0x08 ∷ 0x00 ∷ []) ∷
    -- A1: 2048.5/1024, in mode 2 a tie
    (0 ∷ 0x40000800 ∷ 0 ∷ 2 ∷ 0x08 ∷ 0x00 ∷ []) ∷
    -- A1: 2049.5/1024, in mode 2 a tie
    (0 ∷ 0x40001800 ∷ 0 ∷ 2 ∷ 0x08 ∷ 0x02 ∷ []) ∷
    -- A1: the largest that mode 2 takes
    (0 ∷ 0x407FF7FF ∷ 0 ∷ 2 ∷ 0x0F ∷ 0xFF ∷ []) ∷
    -- A1: the largest below 4
    (0 ∷ 0x407FFFFF ∷ 19 ∷ 0xEE ∷ 0xEE ∷ 0xEE ∷ []) ∷
    -- A1: 4
    (0 ∷ 0x40800000 ∷ 19 ∷ 0xEE ∷ 0xEE ∷ 0xEE ∷ []) ∷
    -- B2: the least above -1, at -4096
    (5 ∷ 0xBF7FFFFF ∷ 0 ∷ 0 ∷ 0xF0 ∷ 0x00 ∷ []) ∷
    -- B2: -1
    (5 ∷ 0xBF800000 ∷ 0 ∷ 1 ∷ 0xF8 ∷ 0x00 ∷ []) ∷
    -- B2: the next one below
    (5 ∷ 0xBF800001 ∷ 0 ∷ 1 ∷ 0xF8 ∷ 0x00 ∷ []) ∷
    -- B2: the least above -2
    (5 ∷ 0xBFFFFFFF ∷ 0 ∷ 1 ∷ 0xF0 ∷ 0x00 ∷ []) ∷
    -- B2: -2
    (5 ∷ 0xC0000000 ∷ 0 ∷ 2 ∷ 0xF8 ∷ 0x00 ∷ []) ∷
    -- C3: the least above -4
    (10 ∷ 0xC07FFFFF ∷ 0 ∷ 2 ∷ 0xF0 ∷ 0x00 ∷ []) ∷
    -- C3: -4
    (10 ∷ 0xC0800000 ∷ 19 ∷ 0xEE ∷ 0xEE ∷ 0xEE ∷ []) ∷
    -- A4: an offset of 0.5, a tie
    (3 ∷ 0x3F000000 ∷ 0 ∷ 0 ∷ 0x00 ∷ 0x00 ∷ []) ∷
    -- A4: 1.5, a tie
    (3 ∷ 0x3FC00000 ∷ 0 ∷ 0 ∷ 0x00 ∷ 0x02 ∷ []) ∷
    -- A4: -1.5, a tie
    (3 ∷ 0xBFC00000 ∷ 0 ∷ 0 ∷ 0xFF ∷ 0xFE ∷ []) ∷
    -- A4: the float before 4095.5
    (3 ∷ 0x457FF7FF ∷ 0 ∷ 0 ∷ 0x0F ∷ 0xFF ∷ []) ∷
    -- A4: 4095.5, a tie at 4096
    (3 ∷ 0x457FF800 ∷ 0 ∷ 1 ∷ 0x08 ∷ 0x00 ∷ []) ∷
    -- B4: -4096.5, a tie at -4096
    (7 ∷ 0xC5800400 ∷ 0 ∷ 0 ∷ 0xF0 ∷ 0x00 ∷ []) ∷
    -- B4: the next one below
    (7 ∷ 0xC5800401 ∷ 0 ∷ 1 ∷ 0xF8 ∷ 0x00 ∷ []) ∷
    -- B4: 8191, in mode 1 a tie at 4096
    (7 ∷ 0x45FFF800 ∷ 0 ∷ 2 ∷ 0x08 ∷ 0x00 ∷ []) ∷
    -- B4: -8193, in mode 1 a tie at -4096
    (7 ∷ 0xC6000400 ∷ 0 ∷ 1 ∷ 0xF0 ∷ 0x00 ∷ []) ∷
    -- C4: the largest offset
    (11 ∷ 0x467FF7FF ∷ 0 ∷ 2 ∷ 0x0F ∷ 0xFF ∷ []) ∷
    -- C4: 16382, in mode 2 a tie at 4096
    (11 ∷ 0x467FF800 ∷ 19 ∷ 0xEE ∷ 0xEE ∷ 0xEE ∷ []) ∷
    -- C4: -16386, in mode 2 a tie at -4096
    (11 ∷ 0xC6800400 ∷ 0 ∷ 2 ∷ 0xF0 ∷ 0x00 ∷ []) ∷
    -- C4: the next one below
    (11 ∷ 0xC6800401 ∷ 19 ∷ 0xEE ∷ 0xEE ∷ 0xEE ∷ []) ∷
    -- C1: minus zero
    (8 ∷ 0x80000000 ∷ 0 ∷ 0 ∷ 0x00 ∷ 0x00 ∷ []) ∷
    -- C1: the smallest subnormal
    (8 ∷ 0x00000001 ∷ 0 ∷ 0 ∷ 0x00 ∷ 0x00 ∷ []) ∷
    -- C2: its negative
    (9 ∷ 0x80000001 ∷ 0 ∷ 0 ∷ 0x00 ∷ 0x00 ∷ []) ∷
    -- C2: the smallest normal
    (9 ∷ 0x00800000 ∷ 0 ∷ 0 ∷ 0x00 ∷ 0x00 ∷ []) ∷
    -- B3: the largest float
    (6 ∷ 0x7F7FFFFF ∷ 19 ∷ 0xEE ∷ 0xEE ∷ 0xEE ∷ []) ∷
    -- C4: the least
    (11 ∷ 0xFF7FFFFF ∷ 19 ∷ 0xEE ∷ 0xEE ∷ 0xEE ∷ []) ∷
    -- B3: infinite
    (6 ∷ 0x7F800000 ∷ 18 ∷ 0xEE ∷ 0xEE ∷ 0xEE ∷ []) ∷
    -- C4: infinite
    (11 ∷ 0xFF800000 ∷ 18 ∷ 0xEE ∷ 0xEE ∷ 0xEE ∷ []) ∷
    -- A1: not a number
    (0 ∷ 0x7F800001 ∷ 18 ∷ 0xEE ∷ 0xEE ∷ 0xEE ∷ []) ∷
    -- A4: not a number
    (3 ∷ 0x7FC00000 ∷ 18 ∷ 0xEE ∷ 0xEE ∷ 0xEE ∷ []) ∷
    -- C4: not a number
    (11 ∷ 0xFFFFFFFF ∷ 18 ∷ 0xEE ∷ 0xEE ∷ 0xEE ∷ []) ∷ []

-- the places of the nine factors
abbrev pub nine : List ℕ
nine = 0 ∷ 1 ∷ 2 ∷ 4 ∷ 5 ∷ 6 ∷ 8 ∷ 9 ∷ 10 ∷ []

-- a row: the bits of a factor; the refusal, the mode and its two bytes, at each of the nine places
abbrev pub factor_rows : List (List ℕ)
factor_rows =
    -- the largest below 1, at 4096
    (0x3F7FFFFF ∷ 0 ∷ 1 ∷ 0x08 ∷ 0x00 ∷ []) ∷
    -- -1, and the next one below: the field would fit mode 0, and the factor does not
    (0xBF800000 ∷ 0 ∷ 1 ∷ 0xF8 ∷ 0x00 ∷ []) ∷
    (0xBF800001 ∷ 0 ∷ 1 ∷ 0xF8 ∷ 0x00 ∷ []) ∷
    -- -2, and the next one below
    (0xC0000000 ∷ 0 ∷ 2 ∷ 0xF8 ∷ 0x00 ∷ []) ∷
    (0xC0000001 ∷ 0 ∷ 2 ∷ 0xF8 ∷ 0x00 ∷ []) ∷
    -- -4, and the next one below
    (0xC0800000 ∷ 19 ∷ 0xEE ∷ 0xEE ∷ 0xEE ∷ []) ∷
    (0xC0800001 ∷ 19 ∷ 0xEE ∷ 0xEE ∷ 0xEE ∷ []) ∷ []

-- Table 39 as floats: 3155, 2048 and so on times 2/4096, and the offsets times 2
abbrev pub numbers39 : List Float
numbers39 =
    map f32
    (0x3FC53000 ∷ 0x3F800000 ∷ 0x00000000 ∷ 0xC5454000 ∷
    0xBEEA8000 ∷ 0x3F800000 ∷ 0xBE3C0000 ∷ 0x44A44000 ∷
    0xBA000000 ∷ 0x3F800000 ∷ 0x3FE85000 ∷ 0xC5684000 ∷ [])

pub record MeterCases : Type 0 where
  pub each : map (λ row. meter_answered (get_or row 0 0) (get_or row 1 0)) meter_rows ≡ map (drop 2) meter_rows
  pub factors : map (λ row. map (λ i. meter_answered i (get_or row 0 0)) nine) factor_rows ≡ map (λ row. replicate 9 (drop 1 row)) factor_rows
  -- at -1 an offset is not asked
  pub offsets : map (λ i. meter_answered i 0xBF800000) (3 ∷ 7 ∷ 11 ∷ []) ≡ replicate 3 (0 ∷ 0 ∷ 0xFF ∷ 0xFF ∷ [])
  -- all twelve in their places: Table 39's bytes, and what lies behind them stays
  pub table39 : outcome numbers39 (room 27)
      ≡ 0 ∷ 25 ∷ 1 ∷ 0x0C ∷ 0x53 ∷ 0x08 ∷ 0x00 ∷ 0x00 ∷ 0x00 ∷ 0xF9 ∷ 0xD6 ∷
      0xFC ∷ 0x56 ∷ 0x08 ∷ 0x00 ∷ 0xFE ∷ 0x88 ∷ 0x02 ∷ 0x91 ∷
      0xFF ∷ 0xFF ∷ 0x08 ∷ 0x00 ∷ 0x0E ∷ 0x85 ∷ 0xF8 ∷ 0xBE ∷ 0xEE ∷ 0xEE ∷ []
  -- 25 bytes are counted in each mode
  pub counted : map (λ bits. (meter_of (alone 0 bits) (room 27)).count) (0x00000000 ∷ 0x3F800000 ∷ 0x40000000 ∷ []) ≡ replicate 3 25
  -- refused, no byte is counted and none written: 19; 18, which is looked for in all twelve and before 19 (A1 is 4, and each number in turn is none)
  pub nineteen : outcome (alone 0 0x40800000) (room 27) ≡ 19 ∷ 0 ∷ room 27
  pub eighteen : map (λ i. outcome (set (alone 0 0x40800000) i (f32 0x7FC00000)) (room 27))
      (0 ∷ 1 ∷ 2 ∷ 3 ∷ 4 ∷ 5 ∷ 6 ∷ 7 ∷ 8 ∷ 9 ∷ 10 ∷ 11 ∷ []) ≡ replicate 12 (18 ∷ 0 ∷ room 27)
  -- a room of 24 is 10, and comes before 18 and 19; a length other than twelve is 5, and comes before all
  pub rooms : map (λ bits. outcome (alone 0 bits) (room 24)) (0x00000000 ∷ 0x7FC00000 ∷ 0x40800000 ∷ []) ≡ replicate 3 (10 ∷ 0 ∷ room 24)
  pub lengths : map (λ n. outcome (replicate n (f32 0x7FC00000)) (room 24)) (0 ∷ 1 ∷ 11 ∷ 13 ∷ 24 ∷ []) ≡ replicate 5 (5 ∷ 0 ∷ room 24)
  pub lengths_in_room : map (λ n. outcome (replicate n (f32 0)) (room 27)) (0 ∷ 1 ∷ 11 ∷ 13 ∷ 24 ∷ []) ≡ replicate 5 (5 ∷ 0 ∷ room 27)
  -- the struct: its numbers in their places, Table 39's matrix, on, and none beside 18 and 19
  pub places : numbers_of
      (record {
        a1 = f32 1;
        a2 = f32 2;
        a3 = f32 3;
        a4 = f32 4;
        b1 = f32 5;
        b2 = f32 6;
        b3 = f32 7;
        b4 = f32 8;
        c1 = f32 9;
        c2 = f32 10;
        c3 = f32 11;
        c4 = f32 12;
      })
      ≡ map f32 (1 ∷ 2 ∷ 3 ∷ 4 ∷ 5 ∷ 6 ∷ 7 ∷ 8 ∷ 9 ∷ 10 ∷ 11 ∷ 12 ∷ [])
  pub struct39 : converted numbers39
      ≡ record {
        refusal = 0;
        matrix = record { on = 1; mode = 1; coefficients = 3155 ∷ 2048 ∷ 0 ∷ 6614 ∷ 7254 ∷ 2048 ∷ 7816 ∷ 657 ∷ 8191 ∷ 2048 ∷ 3717 ∷ 6334 ∷ [] };
      }
  pub no_struct : map converted (alone 11 0x7FC00000 ∷ alone 0 0x40800000 ∷ [])
      ≡ map (λ n. record {
        refusal = n;
        matrix = record { on = 0; mode = 1; coefficients = 2048 ∷ 0 ∷ 0 ∷ 0 ∷ 0 ∷ 2048 ∷ 0 ∷ 0 ∷ 0 ∷ 0 ∷ 2048 ∷ 0 ∷ [] };
      }) (18 ∷ 19 ∷ [])
  -- minus zero is the float of these bits
  pub negative_zero : f32 0x80000000 ≡ minus_zero
