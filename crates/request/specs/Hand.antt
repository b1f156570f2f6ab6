-- A request in hand, which nobody need lay out as bytes: rows 4 to 6, 17 and 20 of it are those of its bytes.
use Rattle.std.specs.Prelude.{◌≡◌, length}
use Rattle.request.specs.declared.Request.{Request}
use Rattle.request.specs.Bytes.{as_bytes}
use Rattle.request.specs.Read.{read_of, allowed_of}
use Rattle.request.specs.ThereAndBack.{Shaped}
use Rattle.request.specs.Fits.{Fits}

-- reading its bytes says it, and refuses nothing
abbrev pub Says : Request → Type 0
Says r = read_of (as_bytes r) ≡ record { refusal = 0; request = r }

pub record InHand (r : Request) : Type 0 where
  -- of a request whose matrix is none, or twelve fields of 13 bits: the number is the one that reading its bytes answers
  pub number : Shaped r.matrix → (read_of (as_bytes r)).refusal ≡ allowed_of r
  -- of any with twelve coefficients: none is given exactly where reading its bytes says it; and then each field is in range
  pub says : length r.matrix.coefficients ≡ 12 → allowed_of r ≡ 0 → Says r
  pub said : Says r → allowed_of r ≡ 0
  pub fits : length r.matrix.coefficients ≡ 12 → allowed_of r ≡ 0 → Fits r
