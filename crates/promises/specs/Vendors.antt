-- Document 02, requests 03 and 04, of the verdict on a vendor's list: our own lists pass, the empty list, and what a list that passes gives.
use Rattle.std.specs.Prelude.{◌≡◌, ◌↔◌, ◌≢◌, false, List, [], ℕ, suc, ◌<◌, ◌≤◌, length, get_or, take}
use Rattle.bits.specs.Merge.{bits_in}
use Rattle.matrix.specs.Matrix.{Bytes}
use Rattle.request.specs.Bytes.{as_bytes, request_in_family}
use Rattle.chip.specs.declared.Chip.{Chip}
use Rattle.chip.specs.Machine.{avi, audio, gc, matrix, packets, converter, held, in_use, Muted, Open}
use Rattle.chip.specs.Write.{vsync_of}
use Rattle.views.specs.Entry.{Lent, state_of}
use Rattle.views.specs.Sized.{LentSized}
use Rattle.views.specs.Refusals.{Sized}
use Rattle.writes.specs.List.{pairs_of}
use Rattle.plan.specs.Plan.{plan_of}
use Rattle.plan.specs.Rules.{HoldsUp}
use Rattle.cut.specs.Run.{Event, run, cut, writes_of, writes_by, all_in_use, Either, Careful, Covered, Untouched}
use Rattle.cut.specs.Vsync.{waited, FinishedRun}
use Rattle.cut.specs.Retried.{Retried}
use Rattle.cut.specs.Demand.{to_its_end, After, Same}
use Rattle.vendor.specs.Vendor.{pair_at, cut_at, end_of, Decodable}
use Rattle.vendor.specs.Found.{vet_of}
use Rattle.promises.specs.LentBytes.{bytes_left, entered}
use Rattle.promises.specs.Said.{mute_said, Entering}
use Rattle.promises.specs.AnyCut.{list_of, AnyCut}

-- "ends in an image that decodes": what decoding answers, and the request, in the family in which it ends, as bytes
abbrev pub input_of : {image : List ℕ} → Decodable image → List ℕ
input_of d = as_bytes (request_in_family d.ends.family d.request)

-- what the owner asks of a list that passes, run from the state that it was read for, with its Vsync just before its last pair
pub record Passing (list : List ℕ) (s : Chip) : Type 0 where
  -- demand 3's clauses: every write is taken by the machine; at every cut between the first write and the last the picture is muted, and
  -- the AVI InfoFrame, the audio InfoFrame and the twelve coefficients in use are each as they began or as the list ends
  pub careful : Careful (λ fs. all_in_use s) (all_in_use (end_of (pairs_of list) s)) (waited (pairs_of list)) s
  -- after the last the picture is open, and what is in use is what stands in the registers, one Vsync later at the latest
  pub opens : Open (end_of (pairs_of list) s)
  pub ended : After (vsync_of (end_of (pairs_of list) s))
  -- HDCP, CEC, every free and read-only bit and every register that no list of ours writes stay
  pub untouched : Untouched (waited (pairs_of list)) s
  -- it ends where some request ends: that request is accepted at the start, and our own list for it ends with the same registers and the
  -- same three groups in use
  pub ends : Decodable (end_of (pairs_of list) s).image
  pub accepted : (room : List ℕ) → 256 ≤ length room → (plan_of (input_of ends) s.image room).refusal ≡ 0
  pub ours : Same (to_its_end (list_of (input_of ends)) s) (vsync_of (end_of (pairs_of list) s))
  -- a crash in it can be mended: a request that was accepted at its start is accepted where any cut left off, with all that demand 3 says,
  -- and a finished run of it ends as ever, with the registers and all three groups in use as from the start
  pub mended : (input buffer : List ℕ) → (plan_of input s.image buffer).refusal ≡ 0 → (k : ℕ) (room : List ℕ) → 256 ≤ length room
      → let t : Chip = cut_at (pairs_of list) s k in
      ((plan_of input t.image room).refusal ≡ 0) × AnyCut input room t
      × ((es fs : List Event) → FinishedRun (list_of input s.image) es → FinishedRun (list_of input t.image) fs → Same (run es s) (run fs t))

-- and what comes beside it
pub record PassingToo (list : List ℕ) (s : Chip) : Type 0 where
  -- with two pairs or more at once, for then that Vsync changes nothing
  pub at_once : 2 ≤ length (pairs_of list) → vsync_of (end_of (pairs_of list) s) ≡ end_of (pairs_of list) s
  -- wherever Vsyncs come: the mute and the two InfoFrames as above, the same registers at the end, and all in use after one Vsync more. Of
  -- the coefficients between nothing is said: a list may lower their hold half way, and a Vsync then takes what stands there, behind the mute
  pub anywhere : (es : List Event) → writes_of es ≡ pairs_of list → (k : ℕ) → 0 < writes_by es k → writes_by es k < length (pairs_of list)
      → Muted (cut es s k) × Either (in_use packets avi s) (in_use packets avi (end_of (pairs_of list) s)) (in_use packets avi (cut es s k))
      × Either (in_use packets audio s) (in_use packets audio (end_of (pairs_of list) s)) (in_use packets audio (cut es s k))
  pub any_end : (es : List Event) → writes_of es ≡ pairs_of list
      → ((run es s).image ≡ (end_of (pairs_of list) s).image) × After (vsync_of (run es s))
  -- the same by the calls, over lent slices that hold the state
  pub entering : (l : Lent) → LentSized l → state_of l ≡ s → Entering (λ fs. l) (waited (pairs_of list)) l
  pub opened : (l : Lent) → LentSized l → state_of l ≡ s → mute_said (entered (waited (pairs_of list)) l) ≡ record { refusal = 0; mute = 2 }
  pub slices : (l : Lent) → LentSized l → state_of l ≡ s → (k : ℕ)
      → state_of (entered (take k (waited (pairs_of list))) l) ≡ cut_at (pairs_of list) s k
  -- with two pairs or more the mute covers what moves, and the last pair writes 0x4B
  pub covered : 2 ≤ length (pairs_of list) → Covered (waited (pairs_of list)) s
  pub closes : (k : ℕ) → 0 < k → suc k ≡ length (pairs_of list) → (pair_at (pairs_of list) k).address ≡ 0x4B
  -- each write, and the Vsync, may be sent again any number of times
  pub retries : (n : ℕ → ℕ) → Retried n (waited (pairs_of list)) s

pub record Vendors : Type 0 where
  -- "The library's own lists always pass."
  pub own : (input buffer : List ℕ) (s : Chip) → Bytes input → Sized s → (plan_of input s.image buffer).refusal ≡ 0
      → vet_of s (bytes_left input s.image buffer) ≡ record { refusal = 0; place = 0 }
  -- "At most 512 pairs", in bytes: not 14 with 1024, and 14 with one pair more or with one byte less
  pub sizes : (list : List ℕ) (s : Chip) → Sized s → (HoldsUp s.image → ⊥)
      → (length list ≡ 1024 → (vet_of s list).refusal ≢ 14) × (length list ≡ 1026 → (vet_of s list).refusal ≡ 14)
      × (length list ≡ 1023 → (vet_of s list).refusal ≡ 14)
  -- "An empty list passes exactly when the image already decodes."
  pub empty : (s : Chip) → Sized s → (HoldsUp s.image → ⊥) → ((vet_of s []).refusal ≡ 0) ↔ Decodable s.image
  -- where no hold is up, 0x4A[6:4] and 0x1A[5], and no change waits, the verdict does not ask what the two buffers hold
  pub buffers : (s t : Chip) (list : List ℕ) → Sized s → Sized t → t.image ≡ s.image → bits_in 6 4 (get_or s.image 0x4A 0) ≡ 0
      → bits_in 5 5 (get_or s.image 0x1A 0) ≡ 0 → s.waiting ≡ false → t.waiting ≡ false → vet_of t list ≡ vet_of s list
  -- and it never asks for more than the registers, what is in use, and the mark where the coefficient hold is down: "a mark beside a raised
  -- hold counts for nothing"
  pub asks : (s t : Chip) (list : List ℕ) → Sized s → Sized t → t.image ≡ s.image
      → in_use packets avi t ≡ in_use packets avi s → in_use packets audio t ≡ in_use packets audio s → in_use packets gc t ≡ in_use packets gc s
      → in_use converter matrix t ≡ in_use converter matrix s
      → (held s ≡ false → t.waiting ≡ s.waiting) → vet_of t list ≡ vet_of s list
  pub passing : (list : List ℕ) (s : Chip) → (vet_of s list).refusal ≡ 0 → Passing list s × PassingToo list s
