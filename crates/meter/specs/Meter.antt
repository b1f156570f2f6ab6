-- Document 02, request 07: what a meter's export is refused by, and the matrix that it becomes. What is answered, `converted`, `meter_of` and
-- `meter_buffer`, follows the code (Found).
use Rattle.std.specs.Prelude.{◌≡◌, ◌≢◌, true, false, List, [], ◌∷◌, ℕ, ◌<◌, ◌≤◌, get_or, length, take, drop, Float}
use Rattle.std.specs.Float.Ieee.Scale.{finite}
use Rattle.refusals.specs.Rows.{field_out_of_range, buffer_short, not_finite, no_mode_fits, Condition, ◌when◌, Given}
use Rattle.matrix.specs.Matrix.{Bytes, Allowed, matrix_of, no_matrix, number_at}
use Rattle.matrix.specs.Body.{body_of, Whole}
use Rattle.meter.specs.declared.Meter.{Meter}
use Rattle.meter.specs.Numbers.{numbers_of, number_of, Rounded, FitsIn}
use Rattle.meter.specs.Found.{converted, meter_of, meter_buffer}

-- "not a number or infinite"
pub record NotFinite (numbers : List Float) : Type 0 where
  pub place : ℕ
  pub within : place < 12
  pub not : finite (number_of numbers place) ≡ false

-- "not a number or infinite is 18; no mode fits is 19", of modes 0 to 2; before them a length other than twelve, and no room for 25 bytes
abbrev pub number_rules : List Float → List Condition
number_rules numbers = not_finite when NotFinite numbers ∷ no_mode_fits when ((mode : ℕ) → mode ≤ 2 → FitsIn numbers mode → ⊥) ∷ []

abbrev pub meter_rules : List Float → List ℕ → List Condition
meter_rules numbers buffer = field_out_of_range when (length numbers ≢ 12) ∷ buffer_short when (length buffer < 25) ∷ number_rules numbers

-- 25 bytes are the matrix section of these numbers: "the smallest mode in which ..", and each field the rounded one
pub record Taken (numbers : List Float) (body : List ℕ) : Type 0 where
  pub numbered : (i : ℕ) → i < 12 → finite (number_of numbers i) ≡ true
  pub bytes : Bytes body
  pub allowed : Allowed body
  pub fits : FitsIn numbers (get_or body 0 0)
  pub smallest : (mode : ℕ) → mode < get_or body 0 0 → FitsIn numbers mode → ⊥
  pub rounded : (i : ℕ) → i < 12 → Rounded (get_or body 0 0) i (number_of numbers i) (number_at body i)

-- of the struct: which of 18 and 19 is given, with no matrix beside it; else the matrix of that section
pub record ConvertRule (m : Meter) : Type 0 where
  pub given : Given (number_rules (numbers_of m)) (converted (numbers_of m)).refusal
  pub nothing : (converted (numbers_of m)).refusal ≢ 0 → (converted (numbers_of m)).matrix ≡ no_matrix
  pub taken : (converted (numbers_of m)).refusal ≡ 0
      → Whole (converted (numbers_of m)).matrix × Taken (numbers_of m) (body_of (converted (numbers_of m)).matrix)

-- the call: which refusal is given; "nothing is written" beside one; else 25 bytes in front that are that section, and no others are
pub record MeterRule (numbers : List Float) (buffer : List ℕ) : Type 0 where
  pub given : Given (meter_rules numbers buffer) (meter_of numbers buffer).refusal
  pub nothing : (meter_of numbers buffer).refusal ≢ 0 → ((meter_of numbers buffer).count ≡ 0) × (meter_buffer numbers buffer ≡ buffer)
  pub count : (meter_of numbers buffer).refusal ≡ 0 → (meter_of numbers buffer).count ≡ 25
  pub taken : (meter_of numbers buffer).refusal ≡ 0 → Taken numbers (take 25 (meter_buffer numbers buffer))
  -- what they say is the struct's matrix
  pub said : (meter_of numbers buffer).refusal ≡ 0 → matrix_of (take 25 (meter_buffer numbers buffer)) ≡ (converted numbers).matrix
  pub after : (meter_of numbers buffer).refusal ≡ 0 → drop 25 (meter_buffer numbers buffer) ≡ drop 25 buffer
  pub only : (body : List ℕ) → Taken numbers body → (meter_of numbers buffer).refusal ≡ 0 → body ≡ take 25 (meter_buffer numbers buffer)
