-- Two states with the same registers, the same bytes in use and, where the coefficient hold is down, the same mark give the same verdict:
-- what else the buffers hold does not matter. Assumes nothing.
use mathlib.Core.Path.{◌≡◌, refl, sym, ap, ap₂, subst, ◌∙◌}
use mathlib.Core.Bool.{Bool, true, false, cond, not, ◌&&◌, ◌||◌}
use mathlib.Core.List.{List, [], ◌∷◌}
use Prim.Native.Nat.{ℕ, suc, ◌+◌, ◌*◌, ◌%◌}
use lib.Dec.{eqb, ltb}
use lib.ListN.{length, get_or}
use Rattle.bits.specs.Merge.{bit}
use Rattle.matrix.specs.Matrix.{fields}
use Rattle.refusals.specs.Rows.{image_length, holds_up, list_length, bad_pair, bad_end}
use Rattle.refusals.specs.Tests.{◌if◌, lowest}
use Rattle.chip.specs.declared.Chip.{Chip}
use Rattle.chip.specs.Numbered.{Wrote}
use Rattle.chip.specs.Machine.{Write, Group, avi, audio, gc, matrix, packets, converter, up, holds_of, registers_of, held, in_use, coefficients, gc_in_use, mute}
use Rattle.chip.specs.Groups.{covers}
use Rattle.chip.specs.Write.{lent_as, image_after, stored, refuses, write_of, vsync_of}
use Rattle.chip.proofs.Writes.{written_as, stepped, turned}
use Rattle.views.specs.Entry.{is_sized}
use Rattle.writes.specs.List.{pairs_of, ready}
use Rattle.decode.specs.Decode.{some_ends}
use Rattle.cut.specs.Run.{InUse, all_in_use}
use Rattle.vendor.specs.Numbered.{Verdict}
use Rattle.vendor.specs.Vendor.{end_of, shortened, most_pairs}
use Rattle.vendor.specs.Found.{packet_moving, matrix_moving, may_move, fair_test, is_turned, is_last, is_event, is_between, is_next, first_fault, place_of, vet_refusal, vet_of}
use Rattle.vendor.proofs.Moved.{Packet, avi_packet_lem, audio_packet_lem, gc_packet, stays, moves, matrix_stays, matrix_moves, vsync_use}
use Rattle.cut.proofs.VsyncsLeave.{alike_self, alike_vsync, alike_write}
use Rattle.vendor.proofs.Faults.{Takes, shortened_takes, not_taken_first, is_taken_first, is_taken}

pub record Alike (s t : Chip) : Type 0 where
  pub image : t.image ≡ s.image
  pub avi : in_use packets avi t ≡ in_use packets avi s
  pub audio : in_use packets audio t ≡ in_use packets audio s
  pub gc : in_use packets gc t ≡ in_use packets gc s
  pub matrix : in_use converter matrix t ≡ in_use converter matrix s
  pub waiting : held s ≡ false → t.waiting ≡ s.waiting

-- beside a raised hold the mark counts for nothing
idle_by : (u w x : Bool) → (u ≡ false → w ≡ x) → not (w || u) ≡ not (x || u)
idle_by true true true h = refl
idle_by true true false h = refl
idle_by true false true h = refl
idle_by true false false h = refl
idle_by false w x h = ap (λ (b : Bool). not (b || false)) (h refl)

turn_by : (u w x : Bool) → (u ≡ false → w ≡ x) → (w && not u) ≡ (x && not u)
turn_by true true true h = refl
turn_by true true false h = refl
turn_by true false true h = refl
turn_by true false false h = refl
turn_by false w x h = ap (λ (b : Bool). b && true) (h refl)

abbrev Whole : Chip → Type 0
Whole s = length s.image ≡ 256

module _ (s t : Chip) (r : Alike s t) (a v : ℕ) where
  same_after : image_after t a v ≡ image_after s a v
  unfolding stored
  same_after = rw r.image refl

  same_test : refuses t a v ≡ refuses s a v
  unfolding refuses stored
  same_test = rw r.image refl

  same_refusal : (write_of t a v).refusal ≡ (write_of s a v).refusal
  same_refusal = go (refuses s a v) refl
    where
      go : (b : Bool) → refuses s a v ≡ b → (write_of t a v).refusal ≡ (write_of s a v).refusal
      go true e =
          ap (λ (w : Wrote). w.refusal) (written_as t a v true (same_test ∙ e)) ∙ sym (ap (λ (w : Wrote). w.refusal) (written_as s a v true e))
      go false e =
          ap (λ (w : Wrote). w.refusal) (written_as t a v false (same_test ∙ e)) ∙ sym (ap (λ (w : Wrote). w.refusal) (written_as s a v false e))

  module _ (z : Whole s) (e : (write_of s a v).refusal ≡ 0) where
    f : (write_of t a v).refusal ≡ 0
    f = same_refusal ∙ e

    y : Whole t
    y = ap length r.image ∙ z

    next_image : (write_of t a v).chip.image ≡ (write_of s a v).chip.image
    next_image = (stepped t a v y).after f ∙ same_after ∙ sym ((stepped s a v z).after e)

    -- what is in use after each of the two writes, by one test of what may have moved
    group : (x y : Bool) → y ≡ x → {before after : List ℕ} {s₁ t₁ : List ℕ} {u₁ : List ℕ} → before ≡ after
        → (x ≡ false → s₁ ≡ after) → (x ≡ true → s₁ ≡ u₁) → (y ≡ false → t₁ ≡ before) → (y ≡ true → t₁ ≡ u₁) → t₁ ≡ s₁
    group true y e same s0 s1 t0 t1 = t1 e ∙ sym (s1 refl)
    group false y e same s0 s1 t0 t1 = t0 e ∙ same ∙ sym (s0 refl)

    abbrev s' : Chip
    s' = (write_of s a v).chip

    abbrev t' : Chip
    t' = (write_of t a v).chip

    held_same : held t ≡ held s
    held_same = ap (λ (l : List ℕ). up matrix (holds_of converter l)) r.image

    held_next : held t' ≡ held s'
    held_next = ap (λ (l : List ℕ). up matrix (holds_of converter l)) next_image

    next_waiting : held s' ≡ false → t'.waiting ≡ s'.waiting
    next_waiting k = go (held s) refl
      where
        go : (b : Bool) → held s ≡ b → t'.waiting ≡ s'.waiting
        go true h = (stepped t a v y).falls f (held_same ∙ h) (held_next ∙ k) ∙ sym ((stepped s a v z).falls e h k)
        go false h =
            let q : held s' ≡ held s = k ∙ sym h in
            (stepped t a v y).waits (held_next ∙ q ∙ sym held_same) ∙ r.waiting h ∙ sym ((stepped s a v z).waits q)

    -- a packet, and the coefficients
    packet : (g : Group) → Packet g → in_use packets g t ≡ in_use packets g s → in_use packets g t' ≡ in_use packets g s'
    packet g F same =
        group _ _ (ap₂ (λ (x y : List ℕ). may_move (packet_moving g (holds_of packets x) y) a) r.image next_image) same (stays s a v z e g F)
        (λ m. moves s a v z e g F m ∙ ap (registers_of g) (sym next_image)) (stays t a v y f g F) (moves t a v y f g F)

    idle : may_move (matrix_moving t'.waiting t'.image) a ≡ may_move (matrix_moving s'.waiting s'.image) a
    idle =
        ap (λ (x : List ℕ). may_move (matrix_moving t'.waiting x) a) next_image
        ∙ ap (λ (b : Bool). b && covers matrix a) (idle_by (held s') t'.waiting s'.waiting next_waiting)

    next : Alike s' t'
    next = record {
      image = next_image;
      avi = packet avi avi_packet_lem r.avi;
      audio = packet audio audio_packet_lem r.audio;
      gc = packet gc gc_packet r.gc;
      matrix = group _ _ idle r.matrix (matrix_stays s a v z e) (λ m. matrix_moves s a v z e m ∙ ap (registers_of matrix) (sym next_image))
          (matrix_stays t a v y f) (matrix_moves t a v y f);
      waiting = next_waiting;
    }

    next_whole : Whole (write_of s a v).chip
    next_whole = (stepped s a v z).sized ∙ z

-- a Vsync
vsync_alike : (s t : Chip) → Alike s t → Alike (vsync_of s) (vsync_of t)
vsync_alike s t r = record {
  image = (turned t).image ∙ r.image ∙ sym (turned s).image;
  avi = vsync_use avi t ∙ r.avi ∙ sym (vsync_use avi s);
  audio = vsync_use audio t ∙ r.audio ∙ sym (vsync_use audio s);
  gc = vsync_use gc t ∙ r.gc ∙ sym (vsync_use gc s);
  matrix = go (held s) refl;
  waiting = λ h. mark (ap (λ (l : List ℕ). up matrix (holds_of converter l)) (sym (turned s).image) ∙ h);
}
  where
    same : held t ≡ held s
    same = ap (λ (l : List ℕ). up matrix (holds_of converter l)) r.image

    go : (h : Bool) → held s ≡ h → in_use converter matrix (vsync_of t) ≡ in_use converter matrix (vsync_of s)
    go true e = ap (in_use converter matrix) ((turned t).beside (same ∙ e)) ∙ r.matrix ∙ sym (ap (in_use converter matrix) ((turned s).beside e))
    go false e = (turned t).takes (same ∙ e) ∙ ap (registers_of matrix) r.image ∙ sym ((turned s).takes e)

    mark : held s ≡ false → (vsync_of t).waiting ≡ (vsync_of s).waiting
    mark e = (turned t).ends (same ∙ e) ∙ sym ((turned s).ends e)

-- ---- a list

same_shortened : (ws : List Write) (s t : Chip) → Alike s t → Whole s → shortened ws t ≡ shortened ws s
same_shortened [] s t r z = refl
same_shortened (w ∷ ws) s t r z =
    go (refuses s w.address w.value) refl (λ e. same_shortened ws (write_of s w.address w.value).chip
    (write_of t w.address w.value).chip (next s t r w.address w.value z e) (next_whole s t r w.address w.value z e))
  where
    go : (b : Bool) → refuses s w.address w.value ≡ b
        → ((write_of s w.address w.value).refusal ≡ 0
        → shortened ws (write_of t w.address w.value).chip ≡ shortened ws (write_of s w.address w.value).chip)
        → shortened (w ∷ ws) t ≡ shortened (w ∷ ws) s
    go true e rest = not_taken_first w ws t (same_test s t r w.address w.value ∙ e) ∙ sym (not_taken_first w ws s e)
    go false e rest =
        is_taken_first w ws t (same_test s t r w.address w.value ∙ e)
        ∙ ap (λ (l : List Write). w ∷ l) (rest (is_taken w ws s e)) ∙ sym (is_taken_first w ws s e)

same_end : (ws : List Write) (s t : Chip) → Alike s t → Whole s → Takes ws s → Alike (end_of ws s) (end_of ws t)
same_end [] s t r z k = r
same_end (w ∷ []) s t r z k =
    next (vsync_of s) (vsync_of t) (vsync_alike s t r) w.address w.value (ap length (turned s).image ∙ z)
    ((alike_write w.address w.value (vsync_of s) s (alike_vsync s s (alike_self s))).refusal ∙ k.0)
same_end (w ∷ x ∷ ws) s t r z k =
    same_end (x ∷ ws) (write_of s w.address w.value).chip (write_of t w.address w.value).chip (next s t r w.address w.value z k.0)
    (next_whole s t r w.address w.value z k.0) k.1

-- all that is in use
same_use : (s t : Chip) → Alike s t → all_in_use t ≡ all_in_use s
unfolding coefficients
same_use s t r = λ j. record { avi = r.avi j; audio = r.audio j; matrix = fields (r.matrix j) }

same_mute : (s t : Chip) → Alike s t → mute (lent_as t.image t.packet [] false) ≡ mute (lent_as s.image s.packet [] false)
unfolding gc_in_use in_use
same_mute s t r = ap (λ (l : List ℕ). bit 6 (get_or l 0 0) + 2 * bit 7 (get_or l 0 0)) r.gc

same_next : (old new : InUse) (event : Bool) (a : ℕ) (s t s' t' : Chip) → Alike s t → Alike s' t'
    → is_next old new event a t t' ≡ is_next old new event a s s'
unfolding is_between is_turned
same_next old new event a s t s' t' r q =
    rw (
      same_mute s' t' q,
      q.image,
      r.image,
      idle_by (held s') t'.waiting s'.waiting q.waiting,
      turn_by (held s') t'.waiting s'.waiting q.waiting,
    ) refl

same_fault : (old new : InUse) (ws : List Write) (s t : Chip) → Alike s t → Whole s → Takes ws s → first_fault old new ws t ≡ first_fault old new ws s
same_fault old new [] s t r z k = refl
same_fault old new (w ∷ ws) s t r z k =
    let s' : Chip = (write_of s w.address w.value).chip in
    let t' : Chip = (write_of t w.address w.value).chip in
    let q : Alike s' t' = next s t r w.address w.value z k.0 in
    let rest : first_fault old new ws t' ≡ first_fault old new ws s' =
    same_fault old new ws s' t' q (next_whole s t r w.address w.value z k.0) k.1 in
    let fair : fair_test t.image w ≡ fair_test s.image w = ap (λ (i : List ℕ). fair_test i w) r.image in
    let cutting : is_next old new (is_event ws) w.address t t' ≡ is_next old new (is_event ws) w.address s s' =
    same_next old new (is_event ws) w.address s t s' t' r q in
    λ j. cond (fair j && (is_last ws || cutting j)) (suc (rest j)) 0

module _ (ws : List Write) (s t : Chip) (r : Alike s t) (z : Whole s) where
  ends : Alike (end_of (shortened ws s) s) (end_of (shortened ws t) t)
  ends = subst (λ (l : List Write). Alike (end_of (shortened ws s) s) (end_of l t)) (sym (same_shortened ws s t r z))
      (same_end (shortened ws s) s t r z (shortened_takes ws s))

  same_place : place_of ws t ≡ place_of ws s
  same_place =
      (λ j. first_fault (same_use s t r j) (same_use (end_of (shortened ws s) s) (end_of (shortened ws t) t) ends j)
      (same_shortened ws s t r z j) t)
      ∙ same_fault (all_in_use s) (all_in_use (end_of (shortened ws s) s)) (shortened ws s) s t r z (shortened_takes ws s)

-- the verdict by what its tests find
by_tests : Bool → Bool → List ℕ → ℕ → Bool → Verdict
by_tests sized fit list place ended =
    let number : ℕ = lowest (
    image_length if not sized ∷ holds_up if not fit ∷ list_length if (eqb (length list % 2) 1 || ltb most_pairs (length (pairs_of list))) ∷
    bad_pair if ltb place (length (pairs_of list)) ∷ bad_end if not ended ∷ []
    ) in
    record { refusal = number; place = cond (eqb number 15) place 0 }

pub same_verdict : (s t : Chip) (list : List ℕ) → Alike s t → Whole s → is_sized t ≡ is_sized s → vet_of t list ≡ vet_of s list
unfolding vet_of vet_refusal by_tests
same_verdict s t list r z sized =
    let fit : ready t.image ≡ ready s.image = ap ready r.image in
    let place : place_of (pairs_of list) t ≡ place_of (pairs_of list) s = same_place (pairs_of list) s t r z in
    let ended : some_ends (end_of (shortened (pairs_of list) t) t).image ≡ some_ends (end_of (shortened (pairs_of list) s) s).image =
    ap some_ends (ends (pairs_of list) s t r z).image in
    λ j. by_tests (sized j) (fit j) list (place j) (ended j)
