-- Document 01, "Register classes", last paragraph: when a request ends in an image.
use Rattle.std.specs.Prelude.{◌≡◌, List, ℕ, ◌<◌, get_or}
use Rattle.request.specs.declared.Request.{Request}
use Rattle.request.specs.Read.{read_of, pair_for}
use Rattle.request.specs.Bytes.{as_bytes, request_in_family, answered_as}
use Rattle.plan.specs.Wanted.{wanted}
use Rattle.writes.specs.List.{finished}

-- a request that is accepted on some image: no row of 1 to 6, 17, 20 and 9 refuses its bytes, and they say it: that this is so is
-- `OnSomeImage` (promises)
pub record Acceptable (r : Request) : Type 0 where
  pub read : read_of (as_bytes r) ≡ record { refusal = 0; request = r }
  pub paired : (pair_for r).refusal ≡ 0

-- "every named and mandated bit its list writes stands in the image as that list leaves it; free and read-only bits do not count"; request
-- 09: "by the list with nothing left out". That list would leave each register as it is (`finished` takes free and read-only bits from the
-- image itself). That this is the sentence, bit by bit, is `BitByBit` of `Theorems`.
abbrev pub Stands : Request → List ℕ → Type 0
Stands r image = (a : ℕ) → a < 256 → finished (wanted r) image a ≡ get_or image a 0

-- "Decoding answers a request exactly when, for that request in one of its families, accepted on some image, .."; and the request itself
-- is as it is answered ("Family is answered as 0"; request 11, "Decoding answers D when the bits are 0")
pub record Ends (r : Request) (image : List ℕ) : Type 0 where
  pub family : ℕ
  pub answered : answered_as r ≡ r
  pub acceptable : Acceptable (request_in_family family r)
  pub stands : Stands (request_in_family family r) image
