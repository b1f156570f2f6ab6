-- Document 02, request 10, "its blanking": the timings of the listed modes, which are CEA-861's and stand in no source (docs/DECISIONS.md).
-- `Timed` (Theorems) holds each against the mode's clock in document 01.
use Rattle.std.specs.Prelude.{List, [], ◌∷◌, ℕ, ◌*◌, ◌/◌, eqb}
use Rattle.lists.specs.Find.{find}

-- pixels of a line and lines of a frame, in all and those of the picture; the fields of a frame, 2 where it is interlaced; and fields a second
pub record Timing : Type 0 where
  pub vic : ℕ
  pub pixels : ℕ
  pub active_pixels : ℕ
  pub lines : ℕ
  pub active_lines : ℕ
  pub fields : ℕ
  pub rate : ℕ

abbrev pub timing : ℕ → ℕ → ℕ → ℕ → ℕ → ℕ → ℕ → Timing
timing vic pixels active_pixels lines active_lines fields rate =
    record { vic = vic; pixels = pixels; active_pixels = active_pixels; lines = lines; active_lines = active_lines; fields = fields; rate = rate }

abbrev pub timings : List Timing
timings =
    timing 1 800 640 525 480 1 60 ∷
    timing 2 858 720 525 480 1 60 ∷
    timing 3 858 720 525 480 1 60 ∷
    timing 4 1650 1280 750 720 1 60 ∷
    timing 5 2200 1920 1125 1080 2 60 ∷
    timing 16 2200 1920 1125 1080 1 60 ∷
    timing 17 864 720 625 576 1 50 ∷
    timing 18 864 720 625 576 1 50 ∷
    timing 19 1980 1280 750 720 1 50 ∷
    timing 20 2640 1920 1125 1080 2 50 ∷
    timing 31 2640 1920 1125 1080 1 50 ∷
    timing 32 2750 1920 1125 1080 1 24 ∷
    timing 34 2200 1920 1125 1080 1 30 ∷
    timing 60 3300 1280 750 720 1 24 ∷
    timing 62 3300 1280 750 720 1 30 ∷ []

-- a VIC that is not listed has no pixels, and no line
abbrev pub untimed : Timing
untimed = timing 0 0 0 0 0 1 0

abbrev pub timing_of : ℕ → Timing
timing_of vic = find (λ t. eqb t.vic vic) untimed timings

-- lines a second at family 0: those of a frame, as often as there are frames
abbrev pub lines_of : Timing → ℕ
lines_of t = t.lines * (t.rate / t.fields)
