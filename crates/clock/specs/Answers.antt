-- What the calls on a clock answer, as the code finds it. `ClockRefusals` and `ClockRule` (Theorems) tie the clock to document 01's rows and
-- fraction, `Coherent` (Pairs) and `Paired` (promises) the pairs to "N and CTS".
use Rattle.std.specs.Prelude.{◌≡◌, Bool, not, List, [], ◌∷◌, ℕ, ◌*◌, ltb, get_or}
use Rattle.refusals.specs.Rows.{mode_not_offered, field_out_of_range, clock_above}
use Rattle.refusals.specs.Tests.{Test, ◌if◌, lowest, answer}
use Rattle.video.specs.declared.Video.{Video}
use Rattle.video.specs.Modes.{offered}
use Rattle.video.specs.Tests.{pixel_outside}
use Rattle.clock.specs.Numbered.{Clock}
use Rattle.clock.specs.Numbered.{Pair}
use Rattle.clock.specs.Tables.{other_row}
use Rattle.clock.specs.Clocks.{limit, tmds}

abbrev pub above_limit : Clock → Bool
above_limit clock = ltb (limit * clock.den) clock.num

-- the tests of rows 4, 5 and 17; they decide the conditions of `clock_rules` (`ClockRefusals`)
abbrev pub clock_tests : Video → List Test
clock_tests video =
    mode_not_offered if not (offered video) ∷
    field_out_of_range if pixel_outside video ∷
    clock_above if above_limit (tmds video) ∷ []

-- a refusal has its number, and zeros beside it
abbrev pub no_clock : ℕ → Clock
no_clock number = record { refusal = number; num = 0; den = 0 }

-- a clock however fast: rows 4 and 5 alone
unfoldable pub clock_asked : Video → Clock
clock_asked video = answer (lowest (mode_not_offered if not (offered video) ∷ field_out_of_range if pixel_outside video ∷ [])) no_clock (tmds video)

unfoldable pub clock_of : Video → Clock
clock_of video = answer (lowest (clock_tests video)) no_clock (tmds video)

-- what `clock_of` promises
abbrev pub GivesClock : Video → Clock → Type 0
GivesClock video r = r ≡ clock_of video

-- N and CTS that are answered; a refusal has its number, and zeros beside it
abbrev pub the_pair : ℕ → ℕ → Pair
the_pair n cts = record { refusal = 0; n = n; cts = cts }

abbrev pub no_pair : ℕ → Pair
no_pair number = record { refusal = number; n = 0; cts = 0 }

-- "For other audio: N from the "Other" row, CTS 0, automatic"
abbrev pub other : ℕ → Pair
other rate = the_pair (get_or other_row rate 0) 0

-- "Audio off: N 6144, CTS 0, automatic"
abbrev pub audio_off : Pair
audio_off = the_pair 6144 0
