-- Source document 000, Tables 80 to 82: the recommended N and CTS, row by row, and the "Other" row.
use Rattle.std.specs.Prelude.{List, [], ◌∷◌, ℕ}
use Rattle.clock.specs.declared.NCts.{NCts}

-- N and CTS, side by side
abbrev pub pair : ℕ → ℕ → NCts
pair n cts = record { n = n; cts = cts }

-- a clock, as a fraction in Hz; its N at each rate, and its CTS
pub record Recommended : Type 0 where
  pub num : ℕ
  pub den : ℕ
  pub n : List ℕ
  pub cts : List ℕ

-- the clock; N and CTS at 32 kHz (Table 80); at 44.1, 88.2 and 176.4 kHz (Table 81); at 48, 96 and 192 kHz (Table 82)
abbrev pub row : ℕ → ℕ → NCts → NCts → NCts → NCts → NCts → NCts → NCts → Recommended
row num den r32 r44 r88 r176 r48 r96 r192 =
    record {
      num = num;
      den = den;
      n = r32.n ∷ r44.n ∷ r48.n ∷ r88.n ∷ r96.n ∷ r176.n ∷ r192.n ∷ [];
      cts = r32.cts ∷ r44.cts ∷ r48.cts ∷ r88.cts ∷ r96.cts ∷ r176.cts ∷ r192.cts ∷ [];
    }

-- The rows as the tables print them, a line for each table: 25.2/1.001 MHz, 25.2, 27, 27·1.001, 54, 54·1.001, 74.25/1.001, 74.25,
-- 148.5/1.001 and 148.5 MHz. "HDMI 1.4 decides over 000", so these numbers are HDMI 1.4's and not 000's: CTS 165000 (000: 16500) at
-- 148.5 MHz and 44.1, 88.2, 176.4 kHz; N 23296 (000: 35672) at 74.25/1.001 MHz and 96 kHz; N 11648 (000: 17836) at 148.5/1.001 MHz and
-- 96 kHz. At 74.25/1.001 MHz and 32 kHz the tables print two CTS, 210937 and 210938, taken in turn: no pair there is exact.
abbrev pub recommended : List Recommended
recommended =
    row 25200000000 1001
    (pair 4576 28125)
    (pair 7007 31250) (pair 14014 31250) (pair 28028 31250)
    (pair 6864 28125) (pair 13728 28125) (pair 27456 28125) ∷
    row 25200000 1
    (pair 4096 25200)
    (pair 6272 28000) (pair 12544 28000) (pair 25088 28000)
    (pair 6144 25200) (pair 12288 25200) (pair 24576 25200) ∷
    row 27000000 1
    (pair 4096 27000)
    (pair 6272 30000) (pair 12544 30000) (pair 25088 30000)
    (pair 6144 27000) (pair 12288 27000) (pair 24576 27000) ∷
    row 27027000 1
    (pair 4096 27027)
    (pair 6272 30030) (pair 12544 30030) (pair 25088 30030)
    (pair 6144 27027) (pair 12288 27027) (pair 24576 27027) ∷
    row 54000000 1
    (pair 4096 54000)
    (pair 6272 60000) (pair 12544 60000) (pair 25088 60000)
    (pair 6144 54000) (pair 12288 54000) (pair 24576 54000) ∷
    row 54054000 1
    (pair 4096 54054)
    (pair 6272 60060) (pair 12544 60060) (pair 25088 60060)
    (pair 6144 54054) (pair 12288 54054) (pair 24576 54054) ∷
    row 74250000000 1001
    (pair 11648 210937)
    (pair 17836 234375) (pair 35672 234375) (pair 71344 234375)
    (pair 11648 140625) (pair 23296 140625) (pair 46592 140625) ∷
    row 74250000 1
    (pair 4096 74250)
    (pair 6272 82500) (pair 12544 82500) (pair 25088 82500)
    (pair 6144 74250) (pair 12288 74250) (pair 24576 74250) ∷
    row 148500000000 1001
    (pair 11648 421875)
    (pair 8918 234375) (pair 17836 234375) (pair 35672 234375)
    (pair 5824 140625) (pair 11648 140625) (pair 23296 140625) ∷
    row 148500000 1
    (pair 4096 148500)
    (pair 6272 165000) (pair 12544 165000) (pair 25088 165000)
    (pair 6144 148500) (pair 12288 148500) (pair 24576 148500) ∷ []

-- N of the "Other" row, at the rates 0 to 6
abbrev pub other_row : List ℕ
other_row = 4096 ∷ 6272 ∷ 6144 ∷ 12544 ∷ 12288 ∷ 25088 ∷ 24576 ∷ []
