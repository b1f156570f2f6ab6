-- Document 02, request 11, of the planning entry: two readers of the AVI packet in use after a run.
use Rattle.std.specs.Prelude.{◌≡◌, List, ℕ, set}
use Rattle.matrix.specs.Matrix.{Bytes}
use Rattle.video.specs.Video.{ycc_quantisation, content_type}
use Rattle.frames.specs.Editions.{ByE, read_by_d, read_by_e}
use Rattle.request.specs.Read.{read_of}
use Rattle.request.specs.Bytes.{new_video}
use Rattle.chip.specs.declared.Chip.{Chip}
use Rattle.chip.specs.Machine.{avi, packets, in_use}
use Rattle.plan.specs.Plan.{plan_of}
use Rattle.cut.specs.Demand.{to_its_end}
use Rattle.promises.specs.AnyCut.{list_of}

pub record TwoReaders (input buffer : List ℕ) (s : Chip) : Type 0 where
  -- request 11: "Shown to a reader that knows only D, an E packet yields the same colour, aspect and VIC": the packet then in use, and that of
  -- the same request with edition byte 0x00, which is accepted too; a reader that knows E finds what was asked
  pub shown_to_d : Bytes input → let under_d : List ℕ = new_video (λ body. set body 6 0x00) input in
      ((plan_of under_d s.image buffer).refusal ≡ 0)
      × (read_by_d (in_use packets avi (to_its_end (list_of input) s)) ≡ read_by_d (in_use packets avi (to_its_end (list_of under_d) s)))
  pub shown_to_e : let found : ByE = read_by_e (in_use packets avi (to_its_end (list_of input) s)) in
      (found.yq ≡ ycc_quantisation (read_of input).request.video) × (found.cn ≡ content_type (read_of input).request.video)

-- of an accepted request
abbrev pub Readers : Type 0
Readers = (input buffer : List ℕ) (s : Chip) → (plan_of input s.image buffer).refusal ≡ 0 → TwoReaders input buffer s
