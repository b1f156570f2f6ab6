-- How the code finds the clock and the pair that `Clocks` and `Pairs` speak of, and what the calls answer: tied to the documents' words by
-- `PairRule` and `ClockRefusals`. With u/v the ratio clock / (128·fs) in lowest terms, CTS = N·u/v, so the exact pairs are N = k·v, CTS = k·u.
use Rattle.std.specs.Prelude.{◌≡◌, Bool, cond, ◌&&◌, ◌||◌, not, List, [], ◌∷◌, ℕ, ◌+◌, ◌-◌, ◌*◌, ◌/◌, min, eqb, leb, ltb}
use Rattle.refusals.specs.Rows.{mode_not_offered, field_out_of_range, clock_above, no_exact_pair, number}
use Rattle.refusals.specs.Tests.{Test, ◌if◌, lowest, answer}
use Rattle.video.specs.declared.Video.{Video}
use Rattle.video.specs.Modes.{offered}
use Rattle.video.specs.Tests.{pixel_outside}
use Rattle.ratio.specs.Terms.{top_of, bottom_of}
use Rattle.clock.specs.Numbered.{Clock}
use Rattle.clock.specs.declared.NCts.{NCts}
use Rattle.clock.specs.Numbered.{Pair}
use Rattle.clock.specs.declared.Quarter.{Quarter}
use Rattle.clock.specs.Clocks.{quarters, times, tmds}
use Rattle.clock.specs.Answers.{above_limit, clock_of}
use Rattle.clock.specs.Pairs.{reference, recommended_of}
use Rattle.clock.specs.Answers.{the_pair, no_pair, other}

-- a quarter of a mode's clock in lowest terms, in each family, by the clock at family 0: a row for each clock of the modes that offer family 1
abbrev pub quarter : ℕ → ℕ → Quarter
quarter num den = record { num = num; den = den }

abbrev pub slow_quarter : ℕ → Quarter
slow_quarter hertz =
    cond (eqb hertz 25200000) (quarter 900000000 143)
    (cond (eqb hertz 27027000) (quarter 6750000 1)
    (cond (eqb hertz 59400000) (quarter 1350000000 91)
    (cond (eqb hertz 74250000) (quarter 1687500000 91) (cond (eqb hertz 148500000) (quarter 3375000000 91) (quarter 0 1)))))

unfoldable pub quarter_of : ℕ → ℕ → Quarter
quarter_of hertz family = cond (eqb family 0) (quarter (hertz / 4) 1) (slow_quarter hertz)

-- so many of these quarters; for a mode that is offered, that is `tmds_of`, as the contract of `clock::clock_of` needs it
abbrev pub found_clock : ℕ → ℕ → ℕ → ℕ → Clock
found_clock hertz family depth repetition =
    record {
      refusal = 0;
      num = (quarter_of hertz family).num * (quarters depth * times repetition);
      den = (quarter_of hertz family).den;
    }

-- k of the nearest pair among least to most, where `below` is the last k with k·v at most 128·fs/1000
unfoldable pub nearest_k : ℕ → ℕ → ℕ → ℕ → ℕ → ℕ
nearest_k f v least most below =
    cond (leb most below) most
    (cond (ltb below least) least (cond (ltb (1000 * ((below + 1) * v) - f) (f - 1000 * (below * v))) (below + 1) below))

-- the first and the last k whose pair is in range
abbrev pub least_k : ℕ → ℕ → ℕ
least_k f v = (f + (1500 * v - 1)) / (1500 * v)

abbrev pub most_k : ℕ → ℕ → ℕ → ℕ
most_k f u v = min (f / (300 * v)) (1048575 / u)

-- the nearest of the pairs (k·v, k·u)
unfoldable pub nearest_in : ℕ → ℕ → ℕ → Pair
nearest_in f u v =
    let k : ℕ = nearest_k f v (least_k f v) (most_k f u v) (f / (1000 * v)) in
    cond (ltb (most_k f u v) (least_k f v)) (no_pair (number no_exact_pair)) (the_pair (k * v) (k * u))

unfoldable pub nearest_of : Clock → ℕ → Pair
nearest_of clock rate =
    let f : ℕ = reference rate in
    nearest_in f (top_of clock.num (clock.den * f)) (bottom_of clock.num (clock.den * f))

-- the test of `Exact`
unfoldable pub exactly : Clock → ℕ → ℕ → ℕ → Bool
exactly clock rate n cts =
    leb (reference rate) (1500 * n) && leb (300 * n) (reference rate) && leb cts 1048575
    && eqb (reference rate * cts * clock.den) (clock.num * n)

unfoldable pub coherent_of : Clock → ℕ → Pair
coherent_of clock rate =
    let r : NCts = recommended_of clock rate in
    cond (exactly clock rate r.n r.cts) (the_pair r.n r.cts) (nearest_of clock rate)

-- the tests of rows 4, 5, 17 and 9, a line for each; they decide the conditions of `pair_rules` (`ClockRefusals`)
abbrev pub pair_tests : Video → ℕ → ℕ → List Test
pair_tests video rate coherent =
    mode_not_offered if not (offered video) ∷
    field_out_of_range if (pixel_outside video || (ltb 6 rate || ltb 1 coherent)) ∷
    clock_above if above_limit (tmds video) ∷
    no_exact_pair if (eqb coherent 1 && not (eqb (coherent_of (clock_of video) rate).refusal 0)) ∷ []

-- N/CTS on single fields
unfoldable pub pair_of : Video → ℕ → ℕ → Pair
pair_of video rate coherent =
    answer (lowest (pair_tests video rate coherent)) no_pair (cond (eqb coherent 1) (coherent_of (clock_of video) rate) (other rate))

-- what `pair_of` promises
abbrev pub GivesPair : Video → ℕ → ℕ → Pair → Type 0
GivesPair video rate coherent r = r ≡ pair_of video rate coherent
