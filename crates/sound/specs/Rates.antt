-- Document 01, "The request", the rates; and section 5 of 000, 0x15[7:4], their codes: one table. Of 88.2 kHz 000 prints 1100 there, which is
-- 176.4 kHz; its own list under 0x04 has 1000 (docs/DECISIONS.md, row 6).
use Rattle.std.specs.Prelude.{List, [], ◌∷◌, ℕ, get_or}

-- "rate (0 to 6 for 32, 44.1, 48, 88.2, 96, 176.4, 192 kHz)", in Hz, and the code that stands for it
abbrev pub rates : List (ℕ × ℕ)
rates =
    (32000, 0b0011) ∷
    (44100, 0b0000) ∷
    (48000, 0b0010) ∷
    (88200, 0b1000) ∷
    (96000, 0b1010) ∷
    (176400, 0b1100) ∷
    (192000, 0b1110) ∷ []

-- 0 for a rate that is none
abbrev pub hertz_of : ℕ → ℕ
hertz_of rate = (get_or rates rate (0, 0)).0

abbrev pub code_for : ℕ → ℕ
code_for rate = (get_or rates rate (0, 0)).1
