-- How the code finds a meter's matrix. `MeterRule` (Meter) ties what it answers to document 02's words.
use Rattle.std.specs.Prelude.{Option, Some, None, ◌≡◌, ◌⊎◌, Bool, true, false, cond, not, ◌||◌, List, [], ◌∷◌, ℕ, suc, ◌-◌, ◌*◌, ◌%◌, ◌^◌, ◌<◌, ◌≤◌, eqb, leb, ltb, length, Float}
use Rattle.std.specs.Float.{nan, inf, fin}
use Rattle.std.specs.Float.Ieee.{up, down}
use Rattle.std.specs.Float.Ieee.Nearest.{closest}
use Rattle.std.specs.Float.Ieee.Positive.{num, den}
use Rattle.std.specs.Float.Ieee.Scale.{finite}
use Rattle.lists.specs.Find.{every}
use Rattle.lists.specs.Over.{over}
use Rattle.refusals.specs.Rows.{field_out_of_range, buffer_short, not_finite, no_mode_fits}
use Rattle.refusals.specs.Tests.{Test, ◌if◌, lowest, answer}
use Rattle.matrix.specs.declared.Matrix.{Matrix}
use Rattle.matrix.specs.Matrix.{no_matrix}
use Rattle.matrix.specs.Body.{body_of}
use Rattle.meter.specs.Numbered.{Converted}
use Rattle.meter.specs.Numbered.{Metered}
use Rattle.meter.specs.Numbers.{is_offset}

-- what a finite float's bits hold: digits of at most 24 bits, whose leading one is there unless the exponent is the least
pub record Normal (digits exponent : ℕ) : Type 0 where
  pub small : digits < 2 ^ 24
  pub most : exponent < 256
  pub leading : (exponent ≡ 0) ⊎ (2 ^ 23 ≤ digits)

abbrev pub negative : Float → Bool
negative nan = false
negative (inf s) = false
negative (fin s m e) = s

-- below 2^mode in size
abbrev pub is_below : Float → ℕ → Bool
is_below nan mode = false
is_below (inf s) mode = false
is_below (fin s m e) mode = ltb (m * up e) (2 ^ mode * down e)

-- a sign and a size as 13 bits of two's complement; 8192, which no field is, where it does not fit
unfoldable pub signed_field : Bool → ℕ → ℕ
signed_field true size = cond (leb size 4096) ((8192 - size) % 8192) 8192
signed_field false size = cond (leb size 4095) size 8192

-- the field nearest to x·2^raised/2^mode
unfoldable pub field_of : Float → ℕ → ℕ → ℕ
unfolding signed_field
field_of x raised mode = signed_field (negative x) (closest (num x * 2 ^ raised) (den x * 2 ^ mode))

-- the field of an offset or a factor; 8192 where the mode is not for it
unfoldable pub field_in : ℕ → Bool → Float → ℕ
unfolding field_of
field_in mode true x = field_of x 0 mode
field_in mode false x = cond (is_below x mode) (field_of x 12 mode) 8192

-- those of all numbers, the first of which is number i
abbrev pub fields_from : ℕ → ℕ → List Float → List ℕ
fields_from mode i [] = []
fields_from mode i (x ∷ xs) = field_in mode (is_offset i) x ∷ fields_from mode (suc i) xs

abbrev pub fields_in : ℕ → List Float → List ℕ
fields_in mode numbers = fields_from mode 0 numbers

abbrev pub is_field : ℕ → Bool
is_field n = ltb n 8192

-- the field that a call hands out, and none for what is no field
abbrev pub as_field : ℕ → Option ℕ
as_field n = cond (is_field n) (Some n) None

abbrev pub fits_in : ℕ → List Float → Bool
fits_in mode numbers = every is_field (fields_in mode numbers)

-- and all twelve
abbrev pub as_fields : ℕ → List Float → Option (List ℕ)
as_fields mode numbers = cond (fits_in mode numbers) (Some (fields_in mode numbers)) None

abbrev pub fits_none : List Float → Bool
fits_none numbers = not (fits_in 0 numbers || fits_in 1 numbers || fits_in 2 numbers)

-- the smallest mode, where one fits
abbrev pub smallest_mode : List Float → ℕ
smallest_mode numbers = cond (fits_in 0 numbers) 0 (cond (fits_in 1 numbers) 1 2)

abbrev pub in_mode : ℕ → List Float → Matrix
in_mode mode numbers = record { on = 1; mode = mode; coefficients = fields_in mode numbers }

-- the tests of rows 18 and 19, and what is answered
abbrev pub number_tests : List Float → List Test
number_tests numbers = not_finite if not (every finite numbers) ∷ no_mode_fits if fits_none numbers ∷ []

abbrev pub not_converted : ℕ → Converted
not_converted number = record { refusal = number; matrix = no_matrix }

unfoldable pub converted : List Float → Converted
converted numbers = answer (lowest (number_tests numbers)) not_converted (record { refusal = 0; matrix = in_mode (smallest_mode numbers) numbers })

-- the tests of the whole call: not twelve numbers, no room for the bytes, and those
abbrev pub meter_tests : List Float → List ℕ → List Test
meter_tests numbers buffer = field_out_of_range if not (eqb (length numbers) 12) ∷ buffer_short if ltb (length buffer) 25 ∷ number_tests numbers

abbrev pub meter_refused : ℕ → Metered
meter_refused number = record { refusal = number; count = 0 }

unfoldable pub meter_of : List Float → List ℕ → Metered
meter_of numbers buffer = answer (lowest (meter_tests numbers buffer)) meter_refused (record { refusal = 0; count = 25 })

-- what is left in the lent buffer
unfoldable pub meter_buffer : List Float → List ℕ → List ℕ
meter_buffer numbers buffer = answer (lowest (meter_tests numbers buffer)) (λ _. buffer) (over (body_of (in_mode (smallest_mode numbers) numbers)) buffer)

-- what the call promises
abbrev pub Meters : List Float → List ℕ → Metered → List ℕ → Type 0
Meters numbers buffer out left = (out ≡ meter_of numbers buffer) × (left ≡ meter_buffer numbers buffer)
