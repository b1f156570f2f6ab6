-- Document 01, "Modes and clocks", and document 02, request 06: the clock of a video, kept exact, over its mode, family, depth and repetition.
use Rattle.std.specs.Prelude.{cond, [], ◌∷◌, ℕ, ◌*◌, ◌<◌, eqb, get_or}
use Rattle.ratio.specs.Terms.{top_of, bottom_of}
use Rattle.video.specs.declared.Video.{Video}
use Rattle.video.specs.Modes.{mode_of}
use Rattle.video.specs.Video.{depth, repetition}
use Rattle.clock.specs.Numbered.{Clock}

-- "The clock that N and CTS rest on is the TMDS clock, which is the pixel clock times 5/4 or 3/2": so many quarters at 24, 30 and 36 bits
abbrev pub quarters : ℕ → ℕ
quarters depth = get_or (4 ∷ 5 ∷ 6 ∷ []) depth 0

-- "Pixel repetition (none, 2, 4) comes with it, under the same fraction"
abbrev pub times : ℕ → ℕ
times repetition = get_or (1 ∷ 2 ∷ 4 ∷ []) repetition 0

-- the clock of a mode, by its clock in Hz at family 0; "Family 1 is that clock times 1000/1001, kept exact"
abbrev pub tmds_top : ℕ → ℕ → ℕ → ℕ → ℕ
tmds_top hertz family depth repetition = hertz * cond (eqb family 0) 1 1000 * quarters depth * times repetition

abbrev pub tmds_bottom : ℕ → ℕ
tmds_bottom family = cond (eqb family 0) 1 1001 * 4

-- "that exact fraction"; we give it in lowest terms
abbrev pub tmds_of : ℕ → ℕ → ℕ → ℕ → Clock
tmds_of hertz family depth repetition =
    let top : ℕ = tmds_top hertz family depth repetition in
    record { refusal = 0; num = top_of top (tmds_bottom family); den = bottom_of top (tmds_bottom family) }

unfoldable pub tmds : Video → Clock
tmds video = tmds_of (mode_of video.vic).hertz video.family (depth video) (repetition video)

-- "Our limit is 225,000,000 Hz."
abbrev pub limit : ℕ
limit = 225000000

-- row 17, "a clock above the limit", of each call on a video
abbrev pub AboveLimit : Clock → Type 0
AboveLimit clock = limit * clock.den < clock.num
