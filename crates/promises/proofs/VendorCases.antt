-- The lists in bare numbers: antt computes each verdict. Assumes nothing.
use mathlib.Core.Path.{refl}
use Rattle.bits.specs.Merge.{merge}
use Rattle.registers.specs.Classes.{class_at}
use Rattle.matrix.specs.Matrix.{fields}
use Rattle.wiring.specs.Kinds.{kind_of}
use Rattle.wiring.specs.Tests.{wiring_outside}
use Rattle.video.specs.Modes.{mode_of}
use Rattle.video.specs.Tests.{video_outside, video_combined}
use Rattle.matrix.specs.Tests.{matrix_in_range}
use Rattle.request.specs.Read.{allowed_of}
use Rattle.chip.specs.Machine.{in_use, coefficients, gc_in_use}
use Rattle.chip.specs.Write.{put, stored, refuses, write_of, vsync_of}
use Rattle.writes.specs.List.{is_written}
use Rattle.decode.specs.Extract.{extract}
use Rattle.plan.specs.Plan.{stands_in}
use Rattle.decode.specs.Decode.{some_ends}
use Rattle.vendor.specs.Found.{is_between, is_turned, vet_refusal, vet_of}
use Rattle.promises.specs.VendorCases.{VendorCases}

pub vendor_cases : VendorCases
unfolding merge class_at fields mode_of kind_of wiring_outside video_outside video_combined matrix_in_range allowed_of in_use coefficients gc_in_use put stored refuses write_of vsync_of is_written extract stands_in some_ends is_between is_turned vet_refusal vet_of
vendor_cases = refl
