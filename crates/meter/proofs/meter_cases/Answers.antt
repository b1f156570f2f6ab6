-- `meter::meter_cases`: computed. Assumes nothing.
use mathlib.Core.Path.{refl}
use lib.Count.{count_trailing_zeros}
use lib.Ieee.{of_bits, of_fields, odd}
use Rattle.meter.specs.Cases.{MeterCases}
use Rattle.meter.specs.Found.{signed_field, field_of, field_in, converted, meter_of, meter_buffer}
use Rattle.meter.proofs.meter_cases.Goals as goal

cases : MeterCases
unfolding of_bits of_fields odd count_trailing_zeros signed_field field_of field_in converted meter_of meter_buffer
cases = record {
  each = refl;
  factors = refl;
  offsets = refl;
  table39 = refl;
  counted = refl;
  nineteen = refl;
  eighteen = refl;
  rooms = refl;
  lengths = refl;
  lengths_in_room = refl;
  places = refl;
  struct39 = refl;
  no_struct = refl;
  negative_zero = refl;
}

pub returns : goal.returns
returns c = cases
