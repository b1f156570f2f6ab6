-- A matrix as a request has it, 25 bytes: document 01, "The request" (Matrix).
use Rattle.std.specs.Prelude.{◌≡◌, true, List, ◌∷◌, map, ℕ, ◌<◌, ◌≤◌, get_or, length}
use Rattle.matrix.specs.declared.Matrix.{Matrix}
use Rattle.matrix.specs.Coefficient.{low_thirteen, coefficient_bytes}
use Rattle.matrix.specs.Tests.{is_allowed}
use Rattle.matrix.specs.Matrix.{Bytes, matrix_of}

-- "CSC mode, then A1 to A4, B1 to B4, C1 to C4, each two bytes", the 13 bits of each
abbrev pub body_of : Matrix → List ℕ
body_of m = m.mode ∷ coefficient_bytes (map low_thirteen m.coefficients)

-- a matrix as a request may have it: on, a mode of 0 to 2, twelve fields of 13 bits
pub record Whole (m : Matrix) : Type 0 where
  pub on : m.on ≡ 1
  pub mode : m.mode ≤ 2
  pub twelve : length m.coefficients ≡ 12
  pub each : (i : ℕ) → get_or m.coefficients i 0 < 8192

-- its bytes are bytes, a body that is allowed, and are read as that matrix
pub record BodyBack (m : Matrix) : Type 0 where
  pub bytes : Bytes (body_of m)
  pub allowed : is_allowed (body_of m) ≡ true
  pub back : matrix_of (body_of m) ≡ m
