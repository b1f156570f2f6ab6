-- The C face of the calls on a request: what each exported call promises is the library's own answer, field by field, and what it leaves in the lent bytes. The
-- definitions follow the code; `Settled` of the promises says of each call which outcome this is.
use Rattle.std.specs.Prelude.{◌≡◌, List, ℕ}
use Rattle.clock.specs.Numbered.{Pair}
use Rattle.plan.specs.Numbered.{Planned}
use Rattle.decode.specs.Numbered.{Decoded}
use Rattle.request.specs.Read.{ncts_of}
use Rattle.plan.specs.Plan.{plan_of, plan_buffer}
use Rattle.decode.specs.Decode as decoding
use Rattle.station.specs.declared.CountOut.{CountOut}
use Rattle.station.specs.declared.PairOut.{PairOut}

abbrev pub count_out : Planned → CountOut
count_out p = record { refusal = p.refusal; count = p.count }

abbrev pub request_out : Decoded → CountOut
request_out d = record { refusal = d.refusal; count = d.count }

abbrev pub pair_out : Pair → PairOut
pair_out p = record { refusal = p.refusal; n = p.n; cts = p.cts }

abbrev pub StationPlan : List ℕ → List ℕ → List ℕ → CountOut → List ℕ → Type 0
StationPlan request image writes out left = (out ≡ count_out (plan_of request image writes)) × (left ≡ plan_buffer request image writes)

abbrev pub StationDecode : List ℕ → List ℕ → CountOut → List ℕ → Type 0
StationDecode image request out left = (out ≡ request_out (decoding.decode_of image request)) × (left ≡ decoding.decoded_buffer image request)

abbrev pub StationNcts : List ℕ → PairOut → Type 0
StationNcts request out = out ≡ pair_out (ncts_of request)
