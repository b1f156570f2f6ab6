-- What `converted` and the whole call answer, case by case. Assumes nothing.
use mathlib.Core.Path.{◌≡◌, refl, sym, ap, ◌∙◌, subst}
use mathlib.Core.Logic.{◌≢◌}
use mathlib.Core.Bool.{Bool, true, false}
use mathlib.Core.List.{List}
use Prim.Native.Nat.{ℕ, zero, suc, ◌+◌, ◌<◌, ◌≤◌}
use native.Mathlib.Nat.{not-suc-le-zero, le_of_suc-le-suc}
use native.Mathlib.Omega.{arith}
use lib.Dec.{eqb, lit<}
use lib.ListN.{length}
use lib.Ieee.{Float}
use lib.Ieee.Scale.{finite}
use borrow.Author.Tests.{eq-eqb, ne_eqb, eqb-true, eqb-false, lt-ltb, le-ltb}
use Rattle.lists.specs.Find.{every}
use Rattle.lists.specs.Over.{over}
use Rattle.refusals.specs.Tests.{lowest, answer}
use Rattle.refusals.proofs.Tests.{numbered, answer_none, answer_some}
use Rattle.matrix.specs.declared.Matrix.{Matrix}
use Rattle.matrix.specs.Body.{body_of}
use Rattle.meter.specs.Numbered.{Converted}
use Rattle.meter.specs.Found.{fields_in, fits_in, smallest_mode, in_mode, number_tests, not_converted, converted}
use Rattle.meter.specs.Found.{meter_tests, meter_refused, meter_of, meter_buffer, Meters}

abbrev pub with_fields : ℕ → List ℕ → Converted
with_fields mode fields = record { refusal = 0; matrix = record { on = 1; mode = mode; coefficients = fields } }

abbrev taken : ℕ → List Float → Converted
taken mode l = with_fields mode (fields_in mode l)

-- what holds of those before, and of one more
pub one_more : (P : ℕ → Type 0) (n : ℕ) → ((k : ℕ) → k < n → P k) → P n → (k : ℕ) → k < n + 1 → P k
one_more P n f p k h = go (eqb k n) refl
  where
    go : (b : Bool) → eqb k n ≡ b → P k
    go true e = subst P (sym (eqb-true k n e)) p
    go false e = f k (omega (arith, eqb-false k n e))

module _ (l : List Float) where
  pub not_finite : every finite l ≡ false → not_converted 18 ≡ converted l
  unfolding converted
  not_finite e = rw e refl

  in_0 : every finite l ≡ true → fits_in 0 l ≡ true → taken 0 l ≡ converted l
  unfolding converted
  in_0 e f = rw (e, f) refl

  in_1 : every finite l ≡ true → fits_in 0 l ≡ false → fits_in 1 l ≡ true → taken 1 l ≡ converted l
  unfolding converted
  in_1 e f g = rw (e, f, g) refl

  in_2 : every finite l ≡ true → fits_in 0 l ≡ false → fits_in 1 l ≡ false → fits_in 2 l ≡ true → taken 2 l ≡ converted l
  unfolding converted
  in_2 e f g h = rw (e, f, g, h) refl

  -- the first mode that fits
  pub in_mode_lem : (mode : ℕ) → mode < 3 → every finite l ≡ true → ((k : ℕ) → k < mode → fits_in k l ≡ false) → fits_in mode l ≡ true
      → with_fields mode (fields_in mode l) ≡ converted l
  in_mode_lem zero h e f g = in_0 e g
  in_mode_lem (suc zero) h e f g = in_1 e (f 0 (lit< tt)) g
  in_mode_lem (suc (suc zero)) h e f g = in_2 e (f 0 (lit< tt)) (f 1 (lit< tt)) g
  in_mode_lem (suc (suc (suc mode))) h e f g = absurd (not-suc-le-zero (le_of_suc-le-suc (le_of_suc-le-suc (le_of_suc-le-suc h))))

  pub in_none_lem : every finite l ≡ true → ((k : ℕ) → k < 3 → fits_in k l ≡ false) → not_converted 19 ≡ converted l
  unfolding converted
  in_none_lem e f = rw (e, f 0 (lit< tt), f 1 (lit< tt), f 2 (lit< tt)) refl

  pub number_given : (converted l).refusal ≡ lowest (number_tests l)
  unfolding converted
  number_given = numbered not_converted _ (λ c. c.refusal) (lowest (number_tests l)) (λ _. refl) refl

  pub matrix_taken : (converted l).refusal ≡ 0 → (converted l).matrix ≡ in_mode (smallest_mode l) l
  unfolding converted
  matrix_taken z = ap (λ (c : Converted). c.matrix) (answer_none not_converted _ (lowest (number_tests l)) (sym number_given ∙ z))

-- the whole call, by its tests in turn
module _ (l : List Float) (b : List ℕ) where
  -- where a number is given, and where none is
  meters_refused : (n : ℕ) → lowest (meter_tests l b) ≡ n → n ≢ 0 → Meters l b (meter_refused n) b
  unfolding meter_of meter_buffer
  meters_refused n e h = (
    sym (ap (λ (k : ℕ). answer k meter_refused (record { refusal = 0; count = 25 })) e ∙ answer_some meter_refused _ n h),
    sym (ap (λ (k : ℕ). answer k (λ _. b) (over (body_of (in_mode (smallest_mode l) l)) b)) e ∙ answer_some (λ _. b) _ n h),
  )

  meters_taken : lowest (meter_tests l b) ≡ 0 → Meters l b (record { refusal = 0; count = 25 }) (over (body_of (in_mode (smallest_mode l) l)) b)
  unfolding meter_of meter_buffer
  meters_taken e = (sym (answer_none meter_refused _ _ e), sym (answer_none (λ _. b) _ _ e))

  pub not_twelve : length l ≢ 12 → Meters l b (meter_refused 5) b
  not_twelve h = meters_refused 5 (rw (ne_eqb (length l) 12 h) refl) (omega arith)

  pub no_room : length l ≡ 12 → length b < 25 → Meters l b (meter_refused 10) b
  no_room h r = meters_refused 10 (rw (eq-eqb (length l) 12 h, lt-ltb (length b) 25 r) refl) (omega arith)

  module _ (twelve : length l ≡ 12) (room : 25 ≤ length b) where
    by_numbers : lowest (meter_tests l b) ≡ (converted l).refusal
    by_numbers = rw (eq-eqb (length l) 12 twelve, le-ltb (length b) 25 room) (sym (number_given l))

    pub not_converted_lem : (converted l).refusal ≢ 0 → Meters l b (meter_refused (converted l).refusal) b
    not_converted_lem h = meters_refused (converted l).refusal by_numbers h

    pub converted_to : (converted l).refusal ≡ 0 → Meters l b (record { refusal = 0; count = 25 }) (over (body_of (converted l).matrix) b)
    converted_to z =
        subst (λ (m : Matrix). Meters l b (record { refusal = 0; count = 25 }) (over (body_of m) b)) (sym (matrix_taken l z)) (meters_taken (by_numbers ∙ z))
