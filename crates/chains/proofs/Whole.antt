-- What stands in the registers of a group at the end of a list is what the request asked, with the free bits of the image. Assumes nothing.
use mathlib.Core.Path.{◌≡◌, refl, sym, ap, ap₂, subst, ◌∙◌}
use mathlib.Core.Logic.{inl}
use mathlib.Core.Bool.{Bool, true, false, cond}
use mathlib.Core.List.{List, [], ◌∷◌, ◌++◌}
use Prim.Native.Nat.{ℕ, ◌+◌, ◌%◌, ◌<◌}
use native.Mathlib.Nat.{mod-eq_of_lt}
use native.Mathlib.Omega.{arith}
use lib.Dec.{eqb}
use lib.ListN.{length, get_or, drop}
use lib.Seq.{take-length}
use borrow.Author.Tests.{eqb-true}
use Rattle.bits.specs.Merge.{merge, under, bit}
use Rattle.bits.proofs.Laws.{merge_small, merge_bit}
use Rattle.bits.proofs.Fields.{low_same}
use Rattle.registers.specs.Classes.{class_at, free}
use Rattle.frames.specs.Frames.{avi_frame}
use Rattle.request.specs.declared.Request.{Request}
use Rattle.request.specs.Read.{read_of}
use Rattle.chip.specs.declared.Chip.{Chip}
use Rattle.chip.specs.Machine.{Write, Group, avi, audio, packets, registers_of, in_use, coefficients}
use Rattle.plan.specs.Plan.{plan_of}
use Rattle.writes.specs.List.{byte, written, is_written, finished, column, finished_image}
use Rattle.cut.specs.Run.{Event, run, standing}
use Rattle.cut.specs.Vsync.{waited, FinishedRun}
use Rattle.cut.specs.Demand.{to_its_end, After, Clauses, Same}
use Rattle.plan.specs.Places.{audio_packet}
use Rattle.promises.specs.Rules.{asked}
use Rattle.promises.specs.LentBytes.{pairs_left}
use Rattle.promises.specs.AnyCut.{list_of, Headed, AnyCut, EveryCut}
use Rattle.chains.specs.Chain.{heads, whole_as}
use Rattle.chains.specs.Theorems.{Kept, Last}
use Rattle.chains.proofs.Runs.{Ready}

-- ---- free bits

under_same : (m x y : ℕ) → ((j : ℕ) → j < 8 → bit j m ≡ 1 → bit j x ≡ bit j y) → under m x ≡ under m y
under_same m x y same =
    sym (mod-eq_of_lt (merge_small 8 m x 0))
    ∙ low_same 8 (under m x) (under m y)
    (λ j h. merge_bit 8 j m x 0 h ∙ go j h (eqb (bit j m) 1) refl ∙ sym (merge_bit 8 j m y 0 h))
    ∙ mod-eq_of_lt (merge_small 8 m y 0)
  where
    go : (j : ℕ) → j < 8 → (b : Bool) → eqb (bit j m) 1 ≡ b → cond b (bit j x) (bit j 0) ≡ cond b (bit j y) (bit j 0)
    go j h true e = same j h (eqb-true (bit j m) 1 e)
    go j h false e = refl

frees : (s t : Chip) → Kept s t → (a : ℕ) → under (free a) (get_or t.image a 0) ≡ under (free a) (get_or s.image a 0)
frees s t kept a = under_same (free a) (get_or t.image a 0) (get_or s.image a 0) (λ j h f. kept.bits a j h (inl f))

-- a request asks the same beside the same free bits
pub whole_kept : (r : Request) (s t : Chip) → Kept s t → whole_as t.image r ≡ whole_as s.image r
whole_kept r s t kept =
    let head : (first version count : ℕ) → heads first version count t.image ≡ heads first version count s.image =
    λ first version count. ap₂ (λ (m n : ℕ). (version + m) ∷ (count + n) ∷ []) (frees s t kept first) (frees s t kept (first + 1)) in
    λ j. record {
      avi = head 0x52 0x02 0x0D j ++ drop 3 (avi_frame r.video);
      audio = head 0x70 0x01 0x0A j ++ drop 3 (audio_packet r.sound);
      matrix = r.matrix.coefficients;
    }

-- a byte by its low bits and the others
low : (x y : ℕ) → merge 8 0xF8 x y ≡ y % 8 + under 0xF8 x
unfolding merge
low x y = omega arith

both : (x : ℕ) → merge 8 0xF8 x x ≡ x % 256
unfolding merge
both x = omega arith

by_three : (x : ℕ) → x < 256 → x ≡ x % 8 + under 0xF8 x
by_three x h = omega (arith, h, low x x, both x)

by_five : (x : ℕ) → x < 256 → x ≡ x % 32 + under 0xE0 x
unfolding merge
by_five x h = omega (arith, h)

module _ (want : ℕ → ℕ) (image : List ℕ) where
  abbrev end : List ℕ
  end = finished_image want image

  pub sized : length end ≡ 256
  unfolding column
  sized = refl

  -- a packet: its first two registers, whose low bits are named and whose others are free, and the rest
  abbrev Parts : Group → Type 0
  Parts g =
      let v : ℕ = get_or end g.first 0 in
      let c : ℕ = get_or end (g.first + 1) 0 in
      (registers_of g end ≡ v ∷ c ∷ drop 2 (registers_of g end)) × (v ≡ v % 8 + under (free g.first) v) × (c ≡ c % 32 + under (free (g.first + 1)) c)

  avi_parts : Parts avi
  unfolding column finished written is_written class_at byte
  avi_parts = (refl, by_three _ (merge_small 8 _ _ _), by_five _ (merge_small 8 _ _ _))

  audio_parts : Parts audio
  unfolding column finished written is_written class_at byte
  audio_parts = (refl, by_three _ (merge_small 8 _ _ _), by_five _ (merge_small 8 _ _ _))

-- ---- an accepted request

module _ (every : EveryCut) (input room : List ℕ) (s : Chip) (z : (plan_of input s.image room).refusal ≡ 0) where
  pub any : AnyCut input room s
  any = every input room s z

  pub planned_ready : Ready s.image
  planned_ready = let d = any.demand in record { whole = d.sized [] d.none; holds = d.ready [] d.none }

  pub pairs : pairs_left input s.image room ≡ list_of input s.image
  pairs = any.listed.pairs

  abbrev last : Chip
  last = to_its_end (list_of input) s

  abbrev r : Request
  r = (read_of input).request

  abbrev its_end : List ℕ
  its_end = finished_image (asked input) s.image

  -- its run with one Vsync just before the last write
  clauses : Clauses its_end (list_of input s.image) (waited (list_of input s.image)) s
  clauses = any.demand.runs (waited (list_of input s.image)) any.demand.waits.runs

  after : After last
  after = clauses.ended any.demand.waits

  pub its_last : last.image ≡ its_end
  its_last = clauses.registers

  kept : Kept s last
  kept =
      let es : List Event = waited (list_of input s.image) in
      let u = clauses.untouched in
      subst (Kept s) (ap (λ (l : List Event). run l s) (take-length es))
      (record { bits = λ a j. u.bits a j (length es); unwritten = λ a h. u.unwritten a (length es) })

  -- a packet, by its two first registers and the rest
  packet_whole : (g : Group) (version count : ℕ) (rest : List ℕ) → in_use packets g last ≡ registers_of g last.image
      → Headed version count (in_use packets g last) → drop 2 (in_use packets g last) ≡ rest → Parts (asked input) s.image g
      → registers_of g its_end ≡ heads g.first version count s.image ++ rest
  packet_whole g version count rest stands headed tail parts =
      let e : in_use packets g last ≡ registers_of g its_end = stands ∙ ap (registers_of g) its_last in
      let h = subst (Headed version count) (e ∙ parts.0) headed in
      let kept_free : (a : ℕ) → under (free a) (get_or its_end a 0) ≡ under (free a) (get_or s.image a 0) =
      λ a. ap (λ (l : List ℕ). under (free a) (get_or l a 0)) (sym its_last) ∙ frees s last kept a in
      parts.0
      ∙ ap₂ (λ (x y : ℕ). x ∷ y ∷ drop 2 (registers_of g its_end)) (parts.1 ∙ ap₂ (λ (m n : ℕ). m + n) h.0 (kept_free g.first))
      (parts.2 ∙ ap₂ (λ (m n : ℕ). m + n) h.1 (kept_free (g.first + 1)))
      ∙ ap (λ (more : List ℕ). heads g.first version count s.image ++ more) (ap (drop 2) (sym e) ∙ tail)

  avi_whole : registers_of avi its_end ≡ (whole_as s.image r).avi
  avi_whole = packet_whole avi 0x02 0x0D _ after.avi any.head_avi any.new_avi (avi_parts (asked input) s.image)

  audio_whole : registers_of audio its_end ≡ (whole_as s.image r).audio
  audio_whole = packet_whole audio 0x01 0x0A _ after.audio any.head_audio any.new_audio (audio_parts (asked input) s.image)

  -- all three
  pub stands_whole_lem : standing its_end ≡ whole_as s.image r
  stands_whole_lem = λ j. record {
    avi = avi_whole j;
    audio = audio_whole j;
    matrix = (sym (after.matrix ∙ ap (λ (image : List ℕ). (standing image).matrix) its_last) ∙ any.new_matrix) j;
  }

-- ---- the last link, finished

module _ (every : EveryCut) (input room : List ℕ) (es : List Event) (t : Chip) (l : Last input room es t) where
  its : AnyCut input room t
  its = every input room t l.accepted

  pub done : FinishedRun (list_of input t.image) es
  done = subst (λ (ws : List Write). FinishedRun ws es) its.listed.pairs l.finished

  of : Clauses (finished_image (asked input) t.image) (list_of input t.image) es t
  of = its.demand.runs es done.runs

  pub its_registers : (run es t).image ≡ finished_image (asked input) t.image
  its_registers = of.registers

  pub ended : After (run es t)
  ended = of.ended done

  pub its_coefficients : coefficients (run es t) ≡ (read_of input).request.matrix.coefficients
  its_coefficients =
      let d = its.demand in
      let same : Same (to_its_end (list_of input) t) (run es t) = d.again [] d.none (waited (list_of input t.image)) es d.waits done in
      same.matrix ∙ its.new_matrix
