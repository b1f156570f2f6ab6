-- Demand 1, any input, of each entry point. That an entry takes anything is that its contract has no `requires`; that it ends and touches
-- nothing outside what it was lent is what the prover checks of every function. What is left to say is the refusals.
use Rattle.std.specs.Prelude.{◌≡◌, ◌≢◌, List, ℕ}
use Rattle.matrix.specs.Matrix.{Bytes}
use Rattle.views.specs.Entry.{Lent}
use Rattle.plan.specs.Rules.{PlanRefusals}
use Rattle.decode.specs.Theorems.{Refusals}
use Rattle.station.specs.declared.CountOut.{CountOut}
use Rattle.station.specs.declared.PairOut.{PairOut}
use Rattle.station.specs.declared.machine.PartOut.{PartOut}
use Rattle.station.specs.declared.machine.StateOut.{StateOut}
use Rattle.station.specs.Face.{StationPlan, StationDecode, StationNcts}
use Rattle.station.specs.Machine.{StationWrite, StationVsync, StationSent, StationMute, StationMatrix}

-- "A bad request gets a numbered refusal from the list in document 01, a count of zero, and every lent buffer unchanged." The first two say
-- that the number given is that of the first row that applies (`Given`); the others, of the exported calls, what stands beside a number. That this
-- is the library's own: `Settled`; the rows of N and CTS: `Rows.ncts`; of the machine's calls: `Refusals` of views. The calls on a matrix, a pipe and
-- a vendor's list: `OtherCalls`. `Bytes` is true of every slice.
pub record Demand1 : Type 0 where
  -- planning, 1 to 10 and 17; decoding, 7, 10 and 11: a count of zero, and the lent buffer as it was
  pub planning : (request image buffer : List ℕ) → Bytes request → PlanRefusals request image buffer
  pub decoding : (image buffer : List ℕ) → Refusals image buffer
  -- the exported calls: beside a refusal that a promise allows stand zeros, and every lent buffer is as it was
  pub station_plan : (request image writes left : List ℕ) (out : CountOut) → Bytes request → StationPlan request image writes out left
      → out.refusal ≢ 0 → (out.count ≡ 0) × (left ≡ writes)
  pub station_decode : (image request left : List ℕ) (out : CountOut) → StationDecode image request out left
      → out.refusal ≢ 0 → (out.count ≡ 0) × (left ≡ request)
  pub station_ncts : (request : List ℕ) (out : PairOut) → StationNcts request out → out.refusal ≢ 0 → (out.n ≡ 0) × (out.cts ≡ 0)
  pub station_write : (l left : Lent) (address value out : ℕ) → StationWrite l address value out left → out ≢ 0 → left ≡ l
  pub station_vsync : (l left : Lent) (out : ℕ) → StationVsync l out left → out ≢ 0 → left ≡ l
  pub station_sent : (image packet : List ℕ) (which : ℕ) (out : PartOut) → StationSent image packet which out
      → out.refusal ≢ 0 → (out.held ≡ 0) × (out.start ≡ 0) × (out.len ≡ 0)
  pub station_mute : (image packet : List ℕ) (out : StateOut) → StationMute image packet out → out.refusal ≢ 0 → out.mute ≡ 0
  pub station_matrix : (image coefficients matrix left : List ℕ) (mark : ℕ) (out : CountOut) → StationMatrix image coefficients mark matrix out left
      → out.refusal ≢ 0 → (out.count ≡ 0) × (left ≡ matrix)
