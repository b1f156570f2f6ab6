-- What the walk of an input tells of its number: 1 where it ends too soon, 2 where a count is not allowed, 3 where bytes are left, and else
-- none of these. Assumes nothing.
use mathlib.Core.Path.{◌≡◌, refl}
use mathlib.Core.Logic.{◌≢◌, ◌⊎◌, inl, inr}
use mathlib.Core.Bool.{Bool, true, false, cond, not, ◌&&◌}
use mathlib.Core.List.{List, [], ◌∷◌}
use Prim.Native.Nat.{ℕ, ◌*◌, ◌/◌, ◌<◌}
use native.Mathlib.Omega.{arith}
use lib.Dec.{eqb, ltb}
use lib.ListN.{length}
use borrow.Author.Tests.{ltb-true, eqb-true, eqb-false}
use Rattle.lists.specs.Find.{every}
use Rattle.lists.proofs.Both.{both_left, both_right}
use Rattle.refusals.specs.Rows.{number}
use Rattle.refusals.specs.Tests.{Test, lowest, answer}
use Rattle.video.specs.declared.Video.{Video}
use Rattle.clock.specs.Numbered.{Clock}
use Rattle.clock.specs.Numbered.{Pair}
use Rattle.clock.specs.declared.NCts.{NCts}
use Rattle.clock.specs.Pairs.{reference, recommended_of}
use Rattle.clock.specs.Answers.{the_pair, no_pair, other}
use Rattle.clock.specs.Answers.{clock_of}
use Rattle.clock.specs.Found.{pair_tests, nearest_k, least_k, most_k, nearest_in, nearest_of, exactly, coherent_of, pair_of}
use Rattle.sound.specs.declared.Sound.{Sound}
use Rattle.sound.specs.declared.Sound.TheVariants.{Off, On}
use Rattle.request.specs.declared.Request.{Request}
use Rattle.request.specs.Numbered.{Checked, emptied}
use Rattle.request.specs.Sections.{Bodies, by_name, Walk, ends, not_allowed, whole, walked}
use Rattle.request.specs.Request.{request_in}
use Rattle.request.specs.Read.{fields_tests, limits_tests, judged, checked, limit_of, limited, read_of, pair_in, pair_for, ncts_of}
use Rattle.pipe.specs.Final.{refusal_of}

-- none of rows 1 to 3, and a number of a byte that is not 255
abbrev pub Later : ℕ → Type 0
Later n = ((n ≡ 0) ⊎ (3 < n)) × (n < 255)

either : (t : Bool) (a b : ℕ) → Later a → Later b → Later (cond t a b)
either true a b p q = p
either false a b p q = q

none : Later 0
none = (inl refl, omega arith)

row : (n : ℕ) → 3 < n → n < 255 → Later n
row n h k = (inr h, k)

-- of tests for such rows
abbrev later_row : Test → Bool
later_row t = ltb 3 (number t.row) && ltb (number t.row) 255

lowest_later : (tests : List Test) → every later_row tests ≡ true → Later (lowest tests)
lowest_later [] h = none
lowest_later (t ∷ tests) h =
    let r : later_row t ≡ true = both_left (later_row t) (every later_row tests) h in
    let n : ℕ = number t.row in
    either t.found n (lowest tests) (row n (ltb-true 3 n (both_left (ltb 3 n) (ltb n 255) r)) (ltb-true n 255 (both_right (ltb 3 n) (ltb n 255) r)))
    (lowest_later tests (both_right (later_row t) (every later_row tests) h))

-- of a pair
pair_of_lem : (t : Bool) (p q : Pair) → Later p.refusal → Later q.refusal → Later (cond t p q).refusal
pair_of_lem true p q h k = h
pair_of_lem false p q h k = k

answered : (n : ℕ) (p : Pair) → Later n → Later p.refusal → Later (answer n no_pair p).refusal
answered n p h k = pair_of_lem (eqb n 0) p (no_pair n) k h

nearest_in_lem : (f u v : ℕ) → Later (nearest_in f u v).refusal
unfolding nearest_in
nearest_in_lem f u v =
    let k : ℕ = nearest_k f v (least_k f v) (most_k f u v) (f / (1000 * v)) in
    pair_of_lem (ltb (most_k f u v) (least_k f v)) (no_pair 9) (the_pair (k * v) (k * u)) (row 9 (omega arith) (omega arith)) none

nearest_later : (clock : Clock) (rate : ℕ) → Later (nearest_of clock rate).refusal
unfolding nearest_of
nearest_later clock rate = nearest_in_lem (reference rate) _ _

coherent_later : (clock : Clock) (rate : ℕ) → Later (coherent_of clock rate).refusal
unfolding coherent_of
coherent_later clock rate =
    let r : NCts = recommended_of clock rate in
    pair_of_lem (exactly clock rate r.n r.cts) (the_pair r.n r.cts) (nearest_of clock rate) none (nearest_later clock rate)

single_later : (video : Video) (rate coherent : ℕ) → Later (pair_of video rate coherent).refusal
unfolding pair_of
single_later video rate coherent =
    answered (lowest (pair_tests video rate coherent)) (cond (eqb coherent 1) (coherent_of (clock_of video) rate) (other rate))
    (lowest_later (pair_tests video rate coherent) refl)
    (pair_of_lem (eqb coherent 1) (coherent_of (clock_of video) rate) (other rate) (coherent_later (clock_of video) rate) none)

pair_later : (r : Request) → Later (pair_for r).refusal
unfolding pair_for
pair_later r = go r.sound
  where
    go : (s : Sound) → Later (pair_in r s).refusal
    go Off = none
    go (On rate channels coherent) = single_later r.video rate coherent

judged_later : (b : Bodies) → Later (judged b).refusal
unfolding judged
judged_later b = go (lowest (fields_tests b)) (lowest_later (fields_tests b) refl)
  where
    go : (n : ℕ) → Later n → Later (answer n emptied (record { refusal = 0; request = request_in b })).refusal
    go n h = split (eqb n 0)
      where
        split : (t : Bool) → Later (cond t (record { refusal = 0; request = request_in b }) (emptied n)).refusal
        split true = none
        split false = h

limited_later : (c : Checked) → Later c.refusal → Later (limited c).refusal
limited_later c h =
    either (eqb c.refusal 0) (limit_of c.request.video c.request.sound) c.refusal
    (lowest_later (limits_tests c.request.video c.request.sound) refl) h

-- of the number that N and CTS gives: that of the sections, or that of the pair
abbrev number_in : Checked → ℕ
number_in c = (answer (limited c).refusal no_pair (pair_for c.request)).refusal

later : (c : Checked) → Later c.refusal → Later (number_in c)
later c h = answered (limited c).refusal (pair_for c.request) (limited_later c h) (pair_later c.request)

-- by what the walk finds
abbrev pub Told : Walk → ℕ → Type 0
Told ends n = n ≡ 1
Told not_allowed n = n ≡ 2
Told (whole bodies rest) n = ((length rest ≢ 0) × (n ≡ 3)) ⊎ ((length rest ≡ 0) × Later n)

of_walk : (w : Walk) → Told w (number_in (checked w))
of_walk ends = refl
of_walk not_allowed = refl
of_walk (whole bodies rest) = go (eqb (length rest) 0) refl
  where
    said : Checked
    said = judged (by_name bodies)

    go : (b : Bool) → eqb (length rest) 0 ≡ b
        → ((length rest ≢ 0) × (number_in (answer (cond (not b) 3 0) emptied said) ≡ 3)) ⊎ ((length rest ≡ 0) × Later (number_in (answer (cond (not b) 3 0) emptied said)))
    go true e = inr (eqb-true (length rest) 0 e, later said (judged_later (by_name bodies)))
    go false e = inl (eqb-false (length rest) 0 e, refl)

pub told : (input : List ℕ) → Told (walked input) (refusal_of input)
unfolding ncts_of read_of
told input = of_walk (walked input)

-- a number of a byte, and not 255
pub small : (input : List ℕ) → refusal_of input < 255
small input = go (walked input) (told input)
  where
    go : (w : Walk) → Told w (refusal_of input) → refusal_of input < 255
    go ends e = omega (arith, e)
    go not_allowed e = omega (arith, e)
    go (whole bodies rest) (inl e) = omega (arith, e.1)
    go (whole bodies rest) (inr e) = e.1.1
