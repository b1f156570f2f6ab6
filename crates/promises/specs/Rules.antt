-- Demand 2, of the planning and the decoding entry.
use Rattle.std.specs.Prelude.{◌≡◌, ◌↔◌, ◌≢◌, ◌⊎◌, List, [], ◌++◌, ℕ, ◌+◌, ◌<◌, ◌≤◌, length, get_or, drop}
use Rattle.refusals.specs.Rows.{Condition, at}
use Rattle.matrix.specs.Matrix.{Bytes}
use Rattle.chip.specs.declared.Chip.{Chip}
use Rattle.request.specs.Sections.{walked, bodies_in, longest}
use Rattle.request.specs.Read.{read_of, ncts_of}
use Rattle.request.specs.Bytes.{with_video, as_read_back}
use Rattle.plan.specs.Wanted.{wanted}
use Rattle.writes.specs.List.{write_list, flat, finished_image}
use Rattle.writes.specs.Fewer.{differing, Fewer}
use Rattle.plan.specs.Plan.{plan_of, plan_buffer}
use Rattle.plan.specs.Rules.{plan_rules}
use Rattle.decode.specs.Theorems.{Answered}
use Rattle.cut.specs.Run.{Event, run, writes_of}
use Rattle.writes.specs.Order.{Order}
use Rattle.writes.specs.Carried.{Entries}
use Rattle.promises.specs.Finished.{FinishedFields, Paired, NeverThree}
use Rattle.promises.specs.LentBytes.{pairs_left}

-- what the request wants in each register
abbrev pub asked : List ℕ → ℕ → ℕ
asked input = wanted (read_of input).request

-- no row applies
abbrev pub Permitted : List Condition → Type 0
Permitted rules = (i : ℕ) → i < length rules → (at rules i).When → ⊥

-- the list of a request on an image stands at the front of the lent buffer, with its count; "buffer bytes after the list stay"
pub record Listed (input image buffer : List ℕ) : Type 0 where
  pub count : (plan_of input image buffer).count ≡ length (write_list (asked input) image)
  pub list : let bytes : List ℕ = flat (write_list (asked input) image) in
      plan_buffer input image buffer ≡ bytes ++ drop (length bytes) buffer
  -- so the pairs in it, by that count, are the list
  pub pairs : pairs_left input image buffer ≡ write_list (asked input) image

-- two requests with the same bytes, but for the video section's byte 1, and for its byte 6 where each of the two is 0x00 or 0x01: the
-- exception in bare bytes
abbrev pub video_at : List ℕ → ℕ → ℕ
video_at input i = get_or (bodies_in (walked input)).video i 0

pub record SameBytesBut (input other : List ℕ) : Type 0 where
  pub others : with_video [] (bodies_in (walked input)) ≡ with_video [] (bodies_in (walked other))
  pub bytes : (i : ℕ) → i ≢ 1 → i ≢ 6 → video_at input i ≡ video_at other i
  pub edition : (video_at input 6 ≡ video_at other 6) ⊎ ((video_at input 6 ≤ 0x01) × (video_at other 6 ≤ 0x01))

pub record Demand2 (input buffer : List ℕ) (s : Chip) : Type 0 where
  -- "A request is accepted exactly when document 01's rules .. permit it."
  pub accepted : Bytes input → ((plan_of input s.image buffer).refusal ≡ 0) ↔ Permitted (plan_rules input s.image buffer)
  -- "The writes are the ones those rules give": the list; with nothing left out, its registers and their order, and what each entry
  -- carries; request 09, "demand 2's list is now this shorter one": what is left out
  pub listed : (plan_of input s.image buffer).refusal ≡ 0 → Listed input s.image buffer
  pub order : Order (asked input) s.image
  pub entries : Entries (asked input) s.image
  pub fewer : Fewer (asked input) s.image
  -- request 09: "The number of writes reported must equal the number of differing registers other than those three, plus the writes to
  -- those three", the nine of `Fewer`
  pub reported : (plan_of input s.image buffer).refusal ≡ 0
      → (plan_of input s.image buffer).count ≡ differing s.image (finished_image (asked input) s.image) + 9
  -- "the finished image" is what the list leaves on the chip, wherever Vsyncs come
  pub finished : (plan_of input s.image buffer).refusal ≡ 0
      → (es : List Event) → writes_of es ≡ write_list (asked input) s.image → (run es s).image ≡ finished_image (asked input) s.image
  -- it has these numbers in its named fields, with the N and CTS that are answered for the request
  pub fields : (plan_of input s.image buffer).refusal ≡ 0
      → FinishedFields (read_of input).request (ncts_of input) (finished_image (asked input) s.image)
  pub pair : (read_of input).refusal ≡ 0 → Paired (read_of input).request.video (read_of input).request.sound (ncts_of input)
  -- "Mode 3 is never written"
  pub never_three : (plan_of input s.image buffer).refusal ≡ 0 → NeverThree (write_list (asked input) s.image)
  -- "and the finished image reads back as the same request, but for the frame-rate family, which no register names"; request 11: "an E
  -- request that asks for none of them reads back as D; that one exception is added": the bytes that were asked, but that the video
  -- section's family is 0, and its edition byte 0x00 where it is 0x01
  pub read_back : Bytes input → (plan_of input s.image buffer).refusal ≡ 0
      → (room : List ℕ) → longest ≤ length room → Answered (as_read_back input) (finished_image (asked input) s.image) room
  -- there is no other: a request that leaves the same finished image is the same, byte for byte, but for these two
  pub only : Bytes input → (plan_of input s.image buffer).refusal ≡ 0 → (other : List ℕ) → Bytes other
      → (plan_of other s.image buffer).refusal ≡ 0 → finished_image (asked other) s.image ≡ finished_image (asked input) s.image
      → SameBytesBut input other
