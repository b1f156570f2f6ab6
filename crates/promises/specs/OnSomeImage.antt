-- "accepted on some image": decoding's `Acceptable`, which speaks of the request alone, is that.
use Rattle.std.specs.Prelude.{◌≡◌, ◌↔◌, List, ℕ}
use Rattle.request.specs.declared.Request.{Request}
use Rattle.request.specs.Read.{read_of}
use Rattle.request.specs.Bytes.{as_bytes}
use Rattle.plan.specs.Plan.{plan_of}
use Rattle.decode.specs.Ends.{Acceptable}

-- "accepted on some image", of a request and its bytes
pub record AcceptedSomewhere (r : Request) : Type 0 where
  pub image : List ℕ
  pub buffer : List ℕ
  pub says : (read_of (as_bytes r)).request ≡ r
  pub accepted : (plan_of (as_bytes r) image buffer).refusal ≡ 0

-- decoding's `Acceptable`, which speaks of the request alone, is that
abbrev pub OnSomeImage : Request → Type 0
OnSomeImage r = Acceptable r ↔ AcceptedSomewhere r
