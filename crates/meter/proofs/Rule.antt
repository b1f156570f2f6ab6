-- What the call answers, in document 02's words: its refusals, the bytes in front, and that no others are these numbers' section.
-- Assumes nothing.
use mathlib.Core.Path.{◌≡◌, refl, sym, ap, ap₂, ◌∙◌, subst}
use mathlib.Core.Logic.{◌⊎◌, inl, inr, ◌≢◌}
use mathlib.Core.Bool.{Bool, true, false}
use mathlib.Core.List.{List, ◌++◌, map}
use Prim.Native.Nat.{ℕ, zero, suc, ◌+◌, ◌*◌, ◌/◌, ◌%◌, ◌≤◌, ◌<◌}
use native.Mathlib.Omega.{arith}
use lib.Dec.{eqb, ltb}
use lib.IntN.{ℤ}
use lib.ListN.{get_or, length, take, drop, length-map}
use lib.Seq.{ext_get_or, take-append_seam, drop-append_seam}
use lib.Ieee.{Float}
use lib.Ieee.Scale.{finite}
use borrow.Author.Tests.{eqb-true, ltb-true, ltb-false, not-false}
use Rattle.lists.specs.Find.{every}
use Rattle.lists.proofs.Decides.{equal, less, opposite}
use Rattle.lists.proofs.Copied.{over_front}
use Rattle.refusals.specs.Tests.{lowest}
use Rattle.refusals.proofs.Tests.{Decided, lowest_given, none_at, numbered, answer_none, answer_some}
use Rattle.matrix.specs.declared.Matrix.{Matrix}
use Rattle.matrix.specs.Coefficient.{low_thirteen, value_of}
use Rattle.matrix.specs.Twos.{bits_of}
use Rattle.matrix.specs.Matrix.{Bytes, matrix_of, word_at, number_at}
use Rattle.matrix.specs.Body.{body_of, Whole}
use Rattle.matrix.proofs.Body.{body_back}
use Rattle.matrix.proofs.Numbers.{numbers}
use Rattle.matrix.proofs.Pairs.{length_bytes}
use Rattle.matrix.proofs.Signs.{twos}
use Rattle.meter.specs.declared.Meter.{Meter}
use Rattle.meter.specs.Numbered.{Converted}
use Rattle.meter.specs.Numbered.{Metered}
use Rattle.meter.specs.Numbers.{numbers_of, number_of, Rounded}
use Rattle.meter.specs.Found.{fields_in, fits_in, fits_none, smallest_mode, in_mode, number_tests, not_converted, converted, meter_tests, meter_refused, meter_of, meter_buffer}
use Rattle.meter.specs.Meter.{number_rules, meter_rules, Taken, ConvertRule, MeterRule}
use Rattle.meter.proofs.Answers.{number_given, matrix_taken}
use Rattle.meter.proofs.Whole.{alone}
use Rattle.meter.proofs.Fields.{unit, stands_for}
use Rattle.meter.proofs.Modes.{field_at, fields_length, each_small, not_finite, is_finite, is_field_lem, fitting, none_fits, mode_small, mode_fits, mode_least}

-- ---- two sections of the same numbers are the same bytes
abbrev mode_in : List ℕ → ℕ
mode_in body = get_or body 0 0

same_mode : (l : List Float) (b c : List ℕ) → Taken l b → Taken l c → mode_in b ≡ mode_in c
same_mode l b c u v = go (ltb (mode_in b) (mode_in c)) (ltb (mode_in c) (mode_in b)) refl refl
  where
    go : (s t : Bool) → ltb (mode_in b) (mode_in c) ≡ s → ltb (mode_in c) (mode_in b) ≡ t → mode_in b ≡ mode_in c
    go true t e f = absurd (v.smallest (mode_in b) (ltb-true _ _ e) u.fits)
    go false true e f = absurd (u.smallest (mode_in c) (ltb-true _ _ f) v.fits)
    go false false e f = omega (arith, ltb-false (mode_in b) (mode_in c) e, ltb-false (mode_in c) (mode_in b) f)

same_number : (l : List Float) (b c : List ℕ) → Taken l b → Taken l c → (i : ℕ) → i < 12 → number_at b i ≡ number_at c i
same_number l b c u v i h =
    let x = number_of l i in
    alone _ _ (number_at b i) (number_at c i) (unit x (mode_in b)) (u.rounded i h)
    (subst (λ (m : ℕ). Rounded m i x (number_at c i)) (sym (same_mode l b c u v)) (v.rounded i h))

same_word : (b c : List ℕ) → Bytes b → Bytes c → (i : ℕ) → number_at b i ≡ number_at c i → word_at b i ≡ word_at c i
same_word b c p q i e =
    let small : word_at b i < 65536 = omega (arith, p (2 * i + 1), p (2 * i + 2)) in
    let little : word_at c i < 65536 = omega (arith, q (2 * i + 1), q (2 * i + 2)) in
    sym ((twos 15).back (word_at b i) small) ∙ ap (bits_of 15) e ∙ (twos 15).back (word_at c i) little

pub two_taken : (l : List Float) (b c : List ℕ) → Taken l b → Taken l c → b ≡ c
two_taken l b c u v = ext_get_or 0 b c (u.allowed.sized ∙ sym v.allowed.sized) (λ i h. at i (rw u.allowed.sized at h))
  where
    p : Bytes b
    p = u.bytes

    q : Bytes c
    q = v.bytes

    word : (j : ℕ) → j < 12 → word_at b j ≡ word_at c j
    word j h = same_word b c p q j (same_number l b c u v j h)

    high : (j : ℕ) → j < 12 → get_or b (2 * j + 1) 0 ≡ get_or c (2 * j + 1) 0
    high j h = omega (arith, word j h, p (2 * j + 2), q (2 * j + 2))

    low : (j : ℕ) → j < 12 → get_or b (2 * j + 2) 0 ≡ get_or c (2 * j + 2) 0
    low j h = omega (arith, word j h, p (2 * j + 2), q (2 * j + 2))

    parts : (i : ℕ) → i < 24 → (i ≡ 2 * (i / 2)) ⊎ (i ≡ 2 * (i / 2) + 1)
    parts i h = half (i % 2) refl
      where
        half : (r : ℕ) → i % 2 ≡ r → (i ≡ 2 * (i / 2)) ⊎ (i ≡ 2 * (i / 2) + 1)
        half zero e = inl (omega arith)
        half (suc r) e = inr (omega arith)

    at : (i : ℕ) → i < 25 → get_or b i 0 ≡ get_or c i 0
    at zero h = same_mode l b c u v
    at (suc i) h = go (parts i (omega arith))
      where
        go : (i ≡ 2 * (i / 2)) ⊎ (i ≡ 2 * (i / 2) + 1) → get_or b (suc i) 0 ≡ get_or c (suc i) 0
        go (inl e) =
            let s : 2 * (i / 2) + 1 ≡ suc i = omega arith in
            subst (λ (k : ℕ). get_or b k 0 ≡ get_or c k 0) s (high (i / 2) (omega arith))
        go (inr e) =
            let s : 2 * (i / 2) + 2 ≡ suc i = omega arith in
            subst (λ (k : ℕ). get_or b k 0 ≡ get_or c k 0) s (low (i / 2) (omega arith))

-- ---- the section of numbers that fit
module _ (l : List Float) (twelve : length l ≡ 12) (all : every finite l ≡ true) (some : fits_none l ≡ false) where
  abbrev mode : ℕ
  mode = smallest_mode l

  abbrev made : Matrix
  made = in_mode mode l

  fit : fits_in mode l ≡ true
  fit = mode_fits l some

  whole : Whole made
  whole = record { on = refl; mode = mode_small l; twelve = fields_length mode l ∙ twelve; each = each_small (fields_in mode l) fit }

  pub made_length : length (body_of made) ≡ 25
  made_length = omega (arith, length_bytes (map low_thirteen (fields_in mode l)), length-map (fields_in mode l) low_thirteen, fields_length mode l)

  number : (i : ℕ) → i < 12 → value_of (get_or (fields_in mode l) i 0) ≡ number_at (body_of made) i
  number i h =
      let back = body_back made whole in
      subst (λ (m : Matrix). value_of (get_or m.coefficients i 0) ≡ number_at (body_of made) i) back.back
      ((numbers (body_of made) back.bytes).values back.allowed i h)

  pub made_taken : Taken l (body_of made)
  made_taken = record {
    numbered = is_finite l twelve all;
    bytes = (body_back made whole).bytes;
    allowed = (numbers (body_of made) (body_back made whole).bytes).rule.0 (body_back made whole).allowed;
    fits = (fitting l twelve all mode).passes fit;
    smallest = λ m h. (fitting l twelve all m).fails (mode_least l m h);
    rounded = λ i h.
        subst (λ (n : ℤ). Rounded mode i (number_of l i) n) (sym (ap value_of (field_at mode l i (rw twelve h))) ∙ number i h)
        (stands_for mode _ (number_of l i) (is_finite l twelve all i h) (is_field_lem l twelve all mode fit i h));
  }

-- ---- the struct
pub convert_rule : (m : Meter) → ConvertRule m
unfolding converted
convert_rule m =
    let l = numbers_of m in
    let twelve : length l ≡ 12 = refl in
    let tests = number_tests l in
    record {
      given = rw (number_given l) (lowest_given tests (number_rules l) refl
          (refl, not_finite l twelve, λ f. (refl, none_fits l twelve (not-false (every finite l) f), λ _. tt)));
      nothing = λ h. ap (λ (c : Converted). c.matrix) (answer_some not_converted _ (lowest tests) (λ z. h (number_given l ∙ z)));
      taken = λ z.
          let none : lowest tests ≡ 0 = sym (number_given l) ∙ z in
          let all = not-false (every finite l) (none_at tests 0 none) in
          let e = matrix_taken l z in
          let some = none_at tests 1 none in
          subst (λ (o : Matrix). Whole o × Taken l (body_of o)) (sym e) (whole l twelve all some, made_taken l twelve all some);
    }

-- ---- the call
pub record Laid (l : List Float) (b : List ℕ) : Type 0 where
  pub matrix : Matrix
  pub whole : Whole matrix
  pub front : take 25 (meter_buffer l b) ≡ body_of matrix

module _ (l : List Float) (b : List ℕ) where
  decided : Decided (meter_tests l b) (meter_rules l b)
  decided = (
    refl,
    opposite (equal (length l) 12),
    λ e. let twelve = eqb-true (length l) 12 (not-false (eqb (length l) 12) e) in (
      refl,
      less (length b) 25,
      λ _. (refl, not_finite l twelve, λ f. (refl, none_fits l twelve (not-false (every finite l) f), λ _. tt)),
    ),
  )

  given_number : (meter_of l b).refusal ≡ lowest (meter_tests l b)
  unfolding meter_of
  given_number = numbered meter_refused _ (λ m. m.refusal) (lowest (meter_tests l b)) (λ _. refl) refl

  beside : (meter_of l b).refusal ≢ 0 → ((meter_of l b).count ≡ 0) × (meter_buffer l b ≡ b)
  unfolding meter_of meter_buffer
  beside h =
      let n = lowest (meter_tests l b) in
      let k : n ≢ 0 = λ z. h (given_number ∙ z) in
      (ap (λ (m : Metered). m.count) (answer_some meter_refused _ n k), answer_some (λ _. b) _ n k)

  module _ (z : (meter_of l b).refusal ≡ 0) where
    none : lowest (meter_tests l b) ≡ 0
    none = sym given_number ∙ z

    twelve : length l ≡ 12
    twelve = eqb-true (length l) 12 (not-false _ (none_at (meter_tests l b) 0 none))

    room : 25 ≤ length b
    room = ltb-false (length b) 25 (none_at (meter_tests l b) 1 none)

    all : every finite l ≡ true
    all = not-false _ (none_at (meter_tests l b) 2 none)

    some : fits_none l ≡ false
    some = none_at (meter_tests l b) 3 none

    body : List ℕ
    body = body_of (in_mode (smallest_mode l) l)

    laid : meter_buffer l b ≡ body ++ drop 25 b
    unfolding meter_buffer body
    laid =
        let n = made_length l twelve all some in
        answer_none (λ _. b) _ _ none
        ∙ over_front body b (omega (arith, n, room)) ∙ ap (λ (k : ℕ). body ++ drop k b) n

    front : take 25 (meter_buffer l b) ≡ body_of (in_mode (smallest_mode l) l)
    unfolding body
    front = ap₂ take (sym (made_length l twelve all some)) laid ∙ take-append_seam body (drop 25 b)

    -- where none is refused: the matrix whose bytes stand in front
    pub laid_matrix : Laid l b
    laid_matrix = record { matrix = in_mode (smallest_mode l) l; whole = whole l twelve all some; front = front }

    counted : (meter_of l b).count ≡ 25
    unfolding meter_of
    counted = ap (λ (m : Metered). m.count) (answer_none meter_refused _ _ none)

    stays : drop 25 (meter_buffer l b) ≡ drop 25 b
    unfolding body
    stays = ap₂ drop (sym (made_length l twelve all some)) laid ∙ drop-append_seam body (drop 25 b)

    is_taken : Taken l (take 25 (meter_buffer l b))
    is_taken = subst (Taken l) (sym front) (made_taken l twelve all some)

    struct_matrix : matrix_of (take 25 (meter_buffer l b)) ≡ (converted l).matrix
    struct_matrix =
        let tests : lowest (number_tests l) ≡ 0 = rw (all, some) refl in
        ap matrix_of front ∙ (body_back (in_mode (smallest_mode l) l) (whole l twelve all some)).back ∙ sym (matrix_taken l (number_given l ∙ tests))

    no_other : (other : List ℕ) → Taken l other → other ≡ take 25 (meter_buffer l b)
    no_other other u = two_taken l other _ u (made_taken l twelve all some) ∙ sym front

  pub rule : MeterRule l b
  rule = record {
    given = rw given_number (lowest_given (meter_tests l b) (meter_rules l b) refl decided);
    nothing = beside;
    count = counted;
    taken = is_taken;
    said = struct_matrix;
    after = stays;
    only = λ other u z. no_other z other u;
  }
