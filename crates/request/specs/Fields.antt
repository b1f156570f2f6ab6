-- How the code sees the matrix of a request, in rows 5 and 6. The contracts of private functions alone: no promise rests on it. `Rows` and `InHand`
-- tie what they make of it to document 01's rows.
use Rattle.std.specs.Prelude.{Bool, true, false}
use Rattle.request.specs.declared.MatrixKind.{MatrixKind}
use Rattle.request.specs.declared.MatrixKind.TheVariants.{Missing, InRange, OutOfRange}

abbrev pub is_missing : MatrixKind → Bool
is_missing Missing = true
is_missing InRange = false
is_missing OutOfRange = false

abbrev pub is_out_of_range : MatrixKind → Bool
is_out_of_range Missing = false
is_out_of_range InRange = false
is_out_of_range OutOfRange = true
