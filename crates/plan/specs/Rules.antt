-- Document 01, "Refusal numbers": the rows that planning checks, and that the lowest that applies is given.
use Rattle.std.specs.Prelude.{◌≡◌, ◌≢◌, ◌⊎◌, true, List, [], ◌∷◌, ◌++◌, ℕ, ◌<◌, length}
use Rattle.refusals.specs.Rows.{image_length, holds_up, buffer_short, Condition, ◌when◌, Given}
use Rattle.request.specs.Sections.{walked}
use Rattle.request.specs.Request.{request_of, read_rules, pair_rows}
use Rattle.chip.specs.Machine.{up, avi, audio, gc, packets, holds_of}
use Rattle.plan.specs.Plan.{plan_of, plan_buffer}

-- row 8, "GC hold up, or AVI and audio holds both up"
abbrev pub HoldsUp : List ℕ → Type 0
HoldsUp image =
    (up gc (holds_of packets image) ≡ true) ⊎ ((up avi (holds_of packets image) ≡ true) × (up audio (holds_of packets image) ≡ true))

-- the image's stage, of which decoding checks the first row, "image not of 256 bytes"
abbrev pub size_rows : List ℕ → List Condition
size_rows image = image_length when (length image ≢ 256) ∷ []

abbrev pub image_rows : List ℕ → List Condition
image_rows image = size_rows image ++ holds_up when HoldsUp image ∷ []

-- the buffer's, "write buffer shorter than 256 bytes; in decoding, request buffer shorter than the longest request"
abbrev pub buffer_rows : ℕ → List ℕ → List Condition
buffer_rows least buffer = buffer_short when (length buffer < least) ∷ []

-- "Planning checks 1 to 10", with 17 and 20 "after 6 and before 7", on the request, the image and the buffer as they are lent
abbrev pub plan_rules : List ℕ → List ℕ → List ℕ → List Condition
plan_rules input image buffer =
    read_rules (walked input) ++ image_rows image ++ pair_rows (request_of (walked input)) ++ buffer_rows 256 buffer

-- "the lowest that applies is given, and none is given otherwise. Each returns its number and count 0 and changes no lent byte."
pub record PlanRefusals (input image buffer : List ℕ) : Type 0 where
  pub given : Given (plan_rules input image buffer) (plan_of input image buffer).refusal
  pub count : (plan_of input image buffer).refusal ≢ 0 → (plan_of input image buffer).count ≡ 0
  pub kept : (plan_of input image buffer).refusal ≢ 0 → plan_buffer input image buffer ≡ buffer
