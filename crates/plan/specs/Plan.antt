-- What planning answers and leaves in the buffer, as the code makes it. `PlanRefusals` (Rules) ties the refusals to document 01's rows,
-- `Demand2.listed` (promises) the count and the buffer to the list; `InHand` (request) and `ExactlyWhen` (decode) are about `stands_in`.
use Rattle.std.specs.Prelude.{◌≡◌, Bool, not, ◌&&◌, List, [], ◌∷◌, ◌++◌, ℕ, eqb, ltb, length}
use Rattle.refusals.specs.Rows.{image_length, holds_up, no_exact_pair, buffer_short}
use Rattle.refusals.specs.Tests.{Test, ◌if◌, lowest, answer}
use Rattle.request.specs.declared.Request.{Request}
use Rattle.request.specs.Read.{read_of, allowed_of, pair_for}
use Rattle.writes.specs.List.{write_list, fronted, stands_below, ready}
use Rattle.plan.specs.Numbered.{Planned}
use Rattle.plan.specs.Wanted.{wanted}

-- the stages of rows 7 to 10 as the code tests them, for a request that was read
abbrev pub size_tests : List ℕ → List Test
size_tests image = image_length if not (eqb (length image) 256) ∷ []

abbrev pub image_tests : List ℕ → List Test
image_tests image = size_tests image ++ holds_up if not (ready image) ∷ []

abbrev pub no_pair_tests : Request → List Test
no_pair_tests r = no_exact_pair if not (eqb (pair_for r).refusal 0) ∷ []

abbrev pub buffer_tests : ℕ → List ℕ → List Test
buffer_tests least buffer = buffer_short if ltb (length buffer) least ∷ []

abbrev pub later_tests : Request → List ℕ → List ℕ → List Test
later_tests r image buffer = image_tests image ++ no_pair_tests r ++ buffer_tests 256 buffer

unfoldable pub later_refusal : Request → List ℕ → List ℕ → ℕ
later_refusal r image buffer = lowest (later_tests r image buffer)

-- a refusal has its number and count 0
abbrev pub nothing : ℕ → Planned
nothing number = record { refusal = number; count = 0 }

-- for such a request: the number of the refusal, 0 for none, and the count of pairs; and the buffer, with the list at its front
unfoldable pub plan_with : Request → List ℕ → List ℕ → Planned
plan_with r image buffer = answer (later_refusal r image buffer) nothing (record { refusal = 0; count = length (write_list (wanted r) image) })

unfoldable pub buffer_with : Request → List ℕ → List ℕ → List ℕ
buffer_with r image buffer = answer (later_refusal r image buffer) (λ _. buffer) (fronted (write_list (wanted r) image) buffer)

abbrev pub PlansWith : Request → List ℕ → List ℕ → Planned → List ℕ → Type 0
PlansWith r image buffer answer left = (answer ≡ plan_with r image buffer) × (left ≡ buffer_with r image buffer)

-- the answer, and what is left in the buffer: a refusal changes no byte
unfoldable pub plan_of : List ℕ → List ℕ → List ℕ → Planned
plan_of input image buffer = answer (read_of input).refusal nothing (plan_with (read_of input).request image buffer)

unfoldable pub plan_buffer : List ℕ → List ℕ → List ℕ → List ℕ
plan_buffer input image buffer = answer (read_of input).refusal (λ _. buffer) (buffer_with (read_of input).request image buffer)

-- what planning promises: its answer, and what it leaves in the lent buffer
abbrev pub Plans : List ℕ → List ℕ → List ℕ → Planned → List ℕ → Type 0
Plans input image buffer answer left = (answer ≡ plan_of input image buffer) × (left ≡ plan_buffer input image buffer)

-- a request that is accepted on some image, and whose list would leave this one as it is (accepted: by `InHand` of request, where it has twelve coefficients)
unfoldable pub stands_in : Request → List ℕ → Bool
stands_in r image = eqb (allowed_of r) 0 && eqb (length image) 256 && eqb (pair_for r).refusal 0 && stands_below (wanted r) image 256
