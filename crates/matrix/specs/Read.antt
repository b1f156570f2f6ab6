-- What the code makes of bytes of any length: `Numbers` ties what it reads of an allowed body to document 01's words.
use Rattle.std.specs.Prelude.{cond, List, ℕ, eqb, length, replicate}
use Rattle.matrix.specs.declared.Matrix.{Matrix}
use Rattle.matrix.specs.Tests.{is_allowed}
use Rattle.matrix.specs.Matrix.{fields, matrix_of, no_matrix}

-- the fields of 24 bytes; zeros where they are not 24
abbrev pub twelve_of : List ℕ → List ℕ
twelve_of bytes = cond (eqb (length bytes) 24) (fields bytes) (replicate 12 0)

-- what is read of a body, allowed or not
abbrev pub allowed_matrix : List ℕ → Matrix
allowed_matrix body = cond (is_allowed body) (matrix_of body) no_matrix
