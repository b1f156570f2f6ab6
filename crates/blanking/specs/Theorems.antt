-- What is proved of the timings, of the rule and of the table.
use Rattle.std.specs.Prelude.{◌≡◌, ◌↔◌, true, cond, List, [], ◌∷◌, map, ℕ, ◌+◌, ◌*◌, ◌<◌, ◌≤◌, length, get_or}
use Rattle.lists.specs.Among.{among}
use Rattle.video.specs.declared.Video.{Video}
use Rattle.video.specs.Modes.{mode_of, listed, offered}
use Rattle.video.specs.Video.{repetition, PixelOutside}
use Rattle.sound.specs.declared.Sound.{Sound}
use Rattle.sound.specs.declared.Sound.TheVariants.{Off, On}
use Rattle.sound.specs.Rates.{hertz_of}
use Rattle.sound.specs.Fits.{SoundFits}
use Rattle.clock.specs.Clocks.{tmds, AboveLimit}
use Rattle.blanking.specs.Table.{highest, highest_rate, TooMuch}
use Rattle.blanking.specs.Timings.{Timing, timings, untimed}
use Rattle.blanking.specs.Room.{overhead, samples, samples_in}
use Rattle.blanking.specs.Found.{too_much}

-- a timing makes the clock of its mode exactly; and its aspect, 4:3 or 16:9, where pixels are square: in all but 480p and 576p, which are 720 wide
abbrev pub MakesClock : Timing → Type 0
MakesClock t = t.pixels * t.lines * t.rate ≡ (mode_of t.vic).hertz * t.fields

abbrev pub MakesAspect : Timing → Type 0
MakesAspect t =
    let aspect : ℕ = (mode_of t.vic).aspect in
    cond (among t.vic (2 ∷ 3 ∷ 17 ∷ 18 ∷ [])) (t.active_pixels ≡ 720)
    (t.active_pixels * get_or (0 ∷ 3 ∷ 9 ∷ []) aspect 0 ≡ t.active_lines * get_or (0 ∷ 4 ∷ 16 ∷ []) aspect 0)

-- the timings, and the rows of the table, are those of the listed modes
pub record Timed : Type 0 where
  pub modes : map (λ t. t.vic) timings ≡ listed
  pub rows : map (λ row. row.0) highest ≡ listed
  pub clocks : (i : ℕ) → i < length timings → MakesClock (get_or timings i untimed)
  pub aspects : (i : ℕ) → i < length timings → MakesAspect (get_or timings i untimed)

-- "The team writes the table from the standard": VIC and repetition of the cells that HDMI 1.4 prints, from memory. 480p and 576p with each pixel
-- twice and four times are its rows 1440x480p, 2880x480p, 1440x576p and 2880x576p. VIC 60 and 62 it lacks
abbrev pub printed_cells : List (ℕ × ℕ)
printed_cells =
    (1, 0) ∷ (2, 0) ∷ (2, 1) ∷ (2, 2) ∷ (3, 0) ∷ (3, 1) ∷ (3, 2) ∷ (4, 0) ∷ (5, 0) ∷ (16, 0) ∷ (17, 0) ∷ (17, 1) ∷ (17, 2) ∷ (18, 0) ∷
    (18, 1) ∷ (18, 2) ∷ (19, 0) ∷ (20, 0) ∷ (31, 0) ∷ (32, 0) ∷ (34, 0) ∷ []

-- by so many periods of a line that carry no packet the rule gives a cell, whichever the rate; and each cell that is printed
abbrev pub Gives : ℕ → ℕ × ℕ → Type 0
Gives apart cell = (rate : ℕ) → rate ≤ 6 → (samples_in apart cell.0 cell.1 8 < hertz_of rate) ↔ (highest_rate cell.0 cell.1 < rate)

abbrev pub GivesPrinted : ℕ → Type 0
GivesPrinted apart = (i : ℕ) → i < length printed_cells → Gives apart (get_or printed_cells i (0, 0))

-- "works out by its blanking rule the modes it lacks": the rule gives what is printed; that leaves its overhead from 65 to 74; and whichever of
-- these it is, the rule gives the table whole, for each mode, repetition, rate and number of channels
pub record Standard : Type 0 where
  pub count : length printed_cells ≡ 21
  pub rows : GivesPrinted overhead
  pub fixed : (apart : ℕ) → GivesPrinted apart ↔ ((65 ≤ apart) × (apart ≤ 74))
  pub table : (apart : ℕ) → GivesPrinted apart → (v : Video) (rate channels coherent : ℕ) → offered v ≡ true → (PixelOutside v → ⊥)
      → SoundFits (On rate channels coherent)
      → (samples_in apart v.vic (repetition v) channels < hertz_of rate) ↔ TooMuch v (On rate channels coherent)

-- the same mode, and each pixel sent as often, whatever the family, the depth and the rest are; "more channels or a higher rate", or both
abbrev pub SameMode : Video → Video → Type 0
SameMode v w = (v.vic ≡ w.vic) × (repetition v ≡ repetition w)

abbrev pub NoLess : Sound → Sound → Type 0
NoLess Off s = Unit
NoLess (On rate channels coherent) Off = ⊥
NoLess (On rate channels coherent) (On higher more other) = (rate ≤ higher) × (channels ≤ more)

-- packets that may come beside the sound in a second: N and CTS at most 1,500 times, InfoFrames and general control a few times a field
abbrev pub other_packets : ℕ
other_packets = 10000

pub record RoomRule : Type 0 where
  -- the code's test decides row 20, in any mode and for any sound that is accepted otherwise
  pub decided : (v : Video) (s : Sound) → offered v ≡ true → (PixelOutside v → ⊥) → SoundFits s → (too_much v s ≡ true) ↔ TooMuch v s
  -- "more channels or a higher rate in the same mode never lifts this refusal": by the table, and by the rule with any overhead
  pub lifts : (v w : Video) (s t : Sound) → SameMode v w → NoLess s t → TooMuch v s → TooMuch w t
  pub wants : (apart vic repetition rate channels higher more : ℕ) → rate ≤ higher → higher ≤ 6 → channels ≤ more
      → samples_in apart vic repetition channels < hertz_of rate → samples_in apart vic repetition more < hertz_of higher
  -- no request meets row 17 too, in either family and with any depth
  pub slow : (v : Video) (s : Sound) → offered v ≡ true → (PixelOutside v → ⊥) → SoundFits s → TooMuch v s → AboveLimit (tmds v) → ⊥
  -- what fits, as two channels always do, fits beside the other packets, and in family 1, where a second has fewer lines: neither decides a cell
  pub two : (v : Video) (rate coherent : ℕ) → TooMuch v (On rate 2 coherent) → ⊥
  pub spare : (v : Video) (rate channels coherent : ℕ) → offered v ≡ true → (PixelOutside v → ⊥) → SoundFits (On rate channels coherent)
      → (TooMuch v (On rate channels coherent) → ⊥)
      → 1001 * (hertz_of rate + other_packets * samples channels) ≤ 1000 * samples_in overhead v.vic (repetition v) channels
