-- Row 20: what the code finds is what the table says, and what is too much stays too much. Assumes nothing.
use mathlib.Core.Path.{◌≡◌, refl, sym, ◌∙◌}
use mathlib.Core.Bool.{Bool, true, false, false≢true, cond, not, ◌||◌, beq}
use Prim.Native.Nat.{ℕ, ◌+◌, ◌-◌, ◌*◌, ◌<◌, ◌≤◌}
use native.Mathlib.Nat.{mul-le-mul_left, lt_of_le_of_lt, lt_of_lt_of_le}
use native.Mathlib.Omega.{arith}
use lib.Dec.{ltb, leb, lit≤}
use borrow.Author.Tests.{ltb-true, ltb-false, lt-ltb, leb-true, le-leb}
use Rattle.lists.specs.Find.{every}
use Rattle.lists.proofs.Both.{beq_true}
use Rattle.lists.proofs.Decides.{Decides, confirmed, refuted}
use Rattle.bits.proofs.Below.{below, at_below}
use Rattle.video.specs.declared.Video.{Video}
use Rattle.video.specs.Modes.{listed, mode_of, offered}
use Rattle.video.specs.Video.{depth, repetition, PixelOutside}
use Rattle.video.proofs.Fits.{is_pixel_outside}
use Rattle.sound.specs.declared.Sound.{Sound}
use Rattle.sound.specs.declared.Sound.TheVariants.{Off, On}
use Rattle.sound.specs.Rates.{hertz_of}
use Rattle.sound.specs.Fits.{SoundFits}
use Rattle.ratio.specs.Terms.{euclid, divisor_of}
use Rattle.clock.specs.Clocks.{tmds_of, tmds, AboveLimit}
use Rattle.clock.specs.Answers.{above_limit}
use Rattle.clock.proofs.Offered.{halves}
use Rattle.blanking.specs.Timings.{timing_of, lines_of}
use Rattle.blanking.specs.Table.{highest_rate, TooMuch}
use Rattle.blanking.specs.Room.{overhead, periods, packets_in, samples, samples_in}
use Rattle.blanking.specs.Found.{highest_of, is_beyond, beyond, too_much}
use Rattle.blanking.specs.Theorems.{SameMode, NoLess, other_packets, RoomRule}
use Rattle.blanking.proofs.Cells.{cells, at_listed, at_cell, more, decides}

-- ---- the tests of a cell

abbrev finds : ℕ → ℕ → ℕ → ℕ → Bool
finds vic r rate channels = beq (is_beyond vic r rate channels) (more vic r rate channels)

abbrev spares : ℕ → ℕ → ℕ → ℕ → Bool
spares vic r rate channels =
    more vic r rate channels || leb (1001 * (hertz_of rate + other_packets * samples channels)) (1000 * samples_in overhead vic r channels)

all_found : every (cells finds) listed ≡ true
unfolding highest_of
all_found = refl

all_spare : every (cells spares) listed ≡ true
all_spare = refl

-- ---- and so of each video

pub is_too_much : (v : Video) (s : Sound) → offered v ≡ true → (PixelOutside v → ⊥) → SoundFits s → Decides (too_much v s) (TooMuch v s)
unfolding beyond
is_too_much v Off o out f = record { passes = λ t. absurd (false≢true t); fails = λ _ h. h }
is_too_much v (On rate channels coherent) o out f =
    let e = beq_true _ _ (at_cell finds all_found v o out rate channels f.0 f.1) in
    let d = decides v rate channels coherent in
    record { passes = λ t. d.passes (sym e ∙ t); fails = λ t. d.fails (sym e ∙ t) }

spare : (v : Video) (rate channels coherent : ℕ) → offered v ≡ true → (PixelOutside v → ⊥) → SoundFits (On rate channels coherent)
    → (TooMuch v (On rate channels coherent) → ⊥)
    → 1001 * (hertz_of rate + other_packets * samples channels) ≤ 1000 * samples_in overhead v.vic (repetition v) channels
spare v rate channels coherent o out f n = leb-true _ _ (go _ _ refl (at_cell spares all_spare v o out rate channels f.0 f.1))
  where
    go : (a b : Bool) → more v.vic (repetition v) rate channels ≡ a → (a || b) ≡ true → b ≡ true
    go true b e t = absurd (n ((decides v rate channels coherent).passes e))
    go false b e t = t

-- ---- a higher rate has more samples a second, and a packet of more channels carries no more of them

higher_rate : (rate higher : ℕ) → rate ≤ higher → higher ≤ 6 → hertz_of rate ≤ hertz_of higher
higher_rate rate higher h m =
    let f : ℕ → ℕ → Bool = λ n r. not (leb r n) || leb (hertz_of r) (hertz_of n) in
    let t = at_below (f higher) 7 rate (at_below (λ n. below (f n) 7) 7 higher refl (omega arith)) (omega (arith, h, m)) in
    leb-true _ _ (rw (le-leb rate higher h) at t)

fewer_samples : (channels more : ℕ) → channels ≤ more → samples more ≤ samples channels
fewer_samples channels more h = go (ltb 2 channels) refl (ltb 2 more) refl
  where
    go : (a : Bool) → ltb 2 channels ≡ a → (b : Bool) → ltb 2 more ≡ b → cond b 1 4 ≤ cond a 1 4
    go true e true g = lit≤ tt
    go true e false g = absurd (omega (arith, h, ltb-true 2 channels e, ltb-false 2 more g))
    go false e true g = lit≤ tt
    go false e false g = lit≤ tt

wants : (apart vic r rate channels higher more : ℕ) → rate ≤ higher → higher ≤ 6 → channels ≤ more → samples_in apart vic r channels < hertz_of rate
    → samples_in apart vic r more < hertz_of higher
wants apart vic r rate channels higher more n m c h =
    let packets : ℕ = lines_of (timing_of vic) * packets_in (periods (timing_of vic) r - apart) in
    lt_of_lt_of_le (lt_of_le_of_lt (mul-le-mul_left packets (fewer_samples channels more c)) h) (higher_rate rate higher n m)

-- by the table

pub lifts : (v w : Video) (s t : Sound) → SameMode v w → NoLess s t → TooMuch v s → TooMuch w t
lifts v w Off t m n h = absurd h
lifts v w (On rate channels coherent) Off m n h = absurd n
lifts v w (On rate channels coherent) (On higher more other) m n h =
    let most : highest_rate w.vic (repetition w) ≡ highest_rate v.vic (repetition v) = rw (m.0, m.1) in
    (lt_of_lt_of_le h.0 n.1, rw most (lt_of_lt_of_le h.1 n.0))

-- ---- eight channels do not have every rate in slow modes alone

abbrev slow_by : ℕ → ℕ → ℕ → ℕ → Bool
slow_by vic r family depth = not (ltb (highest_rate vic r) 6) || not (above_limit (tmds_of (mode_of vic).hertz family depth r))

abbrev slow_once : ℕ → ℕ → Bool
slow_once vic r = below (λ f. below (slow_by vic r f) 3) (mode_of vic).families

all_slow : every (λ vic. below (slow_once vic) 3) listed ≡ true
unfolding mode_of divisor_of euclid
all_slow = refl

below_six : (v : Video) (s : Sound) → SoundFits s → TooMuch v s → highest_rate v.vic (repetition v) < 6
below_six v Off f h = absurd h
below_six v (On rate channels coherent) f h = lt_of_lt_of_le h.1 f.0

slow_cell : (v : Video) → offered v ≡ true → (PixelOutside v → ⊥) → slow_by v.vic (repetition v) v.family (depth v) ≡ true
slow_cell v o out =
    let small = halves v (refuted (is_pixel_outside v) out) in
    let r = at_below (slow_once v.vic) 3 (repetition v) (at_listed (λ vic. below (slow_once vic) 3) all_slow v o) small.1 in
    at_below (slow_by v.vic (repetition v) v.family) 3 (depth v)
    (at_below (λ f. below (slow_by v.vic (repetition v) f) 3) (mode_of v.vic).families v.family r (ltb-true _ _ o)) small.0

pub slow : (v : Video) (s : Sound) → offered v ≡ true → (PixelOutside v → ⊥) → SoundFits s → TooMuch v s → AboveLimit (tmds v) → ⊥
unfolding tmds
slow v s o out f h a = false≢true (sym (go _ _ (lt-ltb _ _ (below_six v s f h)) (slow_cell v o out)) ∙ lt-ltb _ _ a)
  where
    go : (b c : Bool) → b ≡ true → (not b || not c) ≡ true → c ≡ false
    go true true e t = absurd (false≢true t)
    go true false e t = refl
    go false c e t = absurd (false≢true e)

pub rule : RoomRule
rule =
    record {
      decided = λ v s o out f. let d = is_too_much v s o out f in (d.passes, λ h. confirmed d h);
      lifts = lifts;
      wants = wants;
      slow = slow;
      two = λ v rate coherent h. none h.0;
      spare = spare;
    }
  where
    none : 2 < 2 → ⊥
    none h = omega (arith, h)
