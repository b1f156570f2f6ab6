-- What is proved of decoding: document 01, "Register classes", last paragraph, and demand 2.
use Rattle.std.specs.Prelude.{◌≡◌, ◌↔◌, ◌≢◌, ◌⊎◌, true, List, [], ◌∷◌, ◌++◌, ℕ, ◌<◌, ◌≤◌, length, get_or, drop}
use Rattle.refusals.specs.Rows.{no_request, Condition, ◌when◌, Given}
use Rattle.bits.specs.Merge.{bit}
use Rattle.registers.specs.Classes.{named, mandated}
use Rattle.matrix.specs.Matrix.{Bytes}
use Rattle.request.specs.declared.Request.{Request}
use Rattle.request.specs.Sections.{longest}
use Rattle.request.specs.Bytes.{as_bytes, answered_as}
use Rattle.plan.specs.Wanted.{wanted}
use Rattle.plan.specs.Rules.{size_rows, buffer_rows}
use Rattle.lists.specs.Among.{among}
use Rattle.writes.specs.List.{full_list, finished}
use Rattle.writes.specs.Order.{addresses}
use Rattle.decode.specs.Ends.{Acceptable, Stands, Ends}
use Rattle.decode.specs.Decode.{decode_of, decoded_buffer}

-- a request, by its bytes, is answered: their count, and the bytes at the buffer's front; "Buffer bytes after the request stay"
pub record Answered (bytes image buffer : List ℕ) : Type 0 where
  pub counted : decode_of image buffer ≡ record { refusal = 0; count = length bytes }
  pub left : decoded_buffer image buffer ≡ bytes ++ drop (length bytes) buffer

pub record Answer (image buffer : List ℕ) : Type 0 where
  pub request : Request
  pub ends : Ends request image
  pub answered : Answered (as_bytes request) image buffer

-- "Decoding answers a request exactly when .."
pub record ExactlyWhen (image buffer : List ℕ) : Type 0 where
  -- what is answered is a request that ends in the image
  pub only : (decode_of image buffer).refusal ≡ 0 → Answer image buffer
  -- a request that ends in the image is answered
  pub each : length image ≡ 256 → longest ≤ length buffer → (r : Request) → Ends r image → Answered (as_bytes r) image buffer
  -- and so is any request, in its own family and edition, that is accepted and stands there: as it is answered
  pub standing : length image ≡ 256 → longest ≤ length buffer → (r : Request) → Acceptable r → Stands r image
      → Answered (as_bytes (answered_as r)) image buffer

-- the bits that count: "named and mandated"; "free and read-only bits do not count"
abbrev pub Counts : ℕ → ℕ → Type 0
Counts a j = (bit j (named a) ≡ 1) ⊎ (bit j (mandated a) ≡ 1)

-- "every named and mandated bit its list writes stands in the image as that list leaves it": the list of a request, with nothing left
-- out, on the image `before`
abbrev pub AsLeft : Request → List ℕ → List ℕ → Type 0
AsLeft r before image =
    (a j : ℕ) → a < 256 → j < 8 → among a (addresses (full_list (wanted r) before)) ≡ true → Counts a j
    → bit j (get_or image a 0) ≡ bit j (finished (wanted r) before a)

-- `Stands` is that sentence, bit by bit, whatever image the list is made on
abbrev pub BitByBit : Request → List ℕ → List ℕ → Type 0
BitByBit r before image = Bytes image → Stands r image ↔ AsLeft r before image

-- no two requests end in an image; and any two that are accepted and stand there are answered alike: they are the same, but for the family
-- and for an E that asks for nothing (`Exception`, video)
pub record AtMostOne (image : List ℕ) : Type 0 where
  pub ends : length image ≡ 256 → (r q : Request) → Ends r image → Ends q image → r ≡ q
  pub stands : length image ≡ 256 → (r q : Request) → Acceptable r → Stands r image → Acceptable q → Stands q image
      → answered_as r ≡ answered_as q

-- "decoding 7, 10 and 11": when each applies
abbrev pub decode_rules : List ℕ → List ℕ → List Condition
decode_rules image buffer = size_rows image ++ buffer_rows longest buffer ++ no_request when ((r : Request) → Ends r image → ⊥) ∷ []

-- "the lowest that applies is given"; it "returns its number and count 0 and changes no lent byte"
pub record Refusals (image buffer : List ℕ) : Type 0 where
  pub given : Given (decode_rules image buffer) (decode_of image buffer).refusal
  pub unchanged : (decode_of image buffer).refusal ≢ 0 → ((decode_of image buffer).count ≡ 0) × (decoded_buffer image buffer ≡ buffer)
