-- What is in use after a write that is taken: a group that the write cannot have moved is as it was, and one that it may have moved is what
-- stands in its registers. So the code's test of a cut decides it, where the cut before it was as it must be. Assumes nothing.
use mathlib.Core.Path.{◌≡◌, refl, sym, ap, subst, ◌∙◌}
use mathlib.Core.Logic.{⊎_map}
use mathlib.Core.Bool.{Bool, true, false, false≢true, cond, not, ◌&&◌, ◌||◌}
use mathlib.Core.List.{List, []}
use Prim.Native.Nat.{ℕ, ◌+◌, ◌^◌, ◌<◌, ◌≤◌}
use native.Mathlib.Omega.{arith}
use lib.Dec.{eqb, leb, ltb}
use lib.ListN.{length}
use borrow.Author.Tests.{eqb-true, eqb-false, eq-eqb, lt-ltb, le-leb, leb-false, ltb-false, not-true}
use Rattle.lists.proofs.Both.{both_right, neither_left, neither_right}
use Rattle.lists.proofs.Decides.{Decides, either, together, restated}
use Rattle.lists.proofs.Compared.{same_decides}
use Rattle.bits.specs.Merge.{bit}
use Rattle.matrix.specs.Matrix.{fields}
use Rattle.chip.specs.declared.Chip.{Chip}
use Rattle.chip.specs.Numbered.{Wrote}
use Rattle.chip.specs.Machine.{Write, ◌gets◌, Group, avi, audio, gc, matrix, packets, converter, up, holds_of, registers_of, held, in_use, coefficients, gc_in_use, mute, Muted}
use Rattle.chip.specs.Groups.{covers}
use Rattle.chip.specs.Write.{lent_as, stored, two, write_of, vsync_of}
use Rattle.chip.proofs.Writes.{written_as, allowed, turned}
use Rattle.cut.specs.Run.{InUse, Either, Between}
use Rattle.cut.proofs.MendedRun.{lone}
use Rattle.cut.proofs.GroupStays.{store, only, status, quiet, Shown, avi_shown, audio_shown, gc_shown, avi_same, audio_same, gc_same, down_part}
use Rattle.cut.proofs.CoefficientsInUse.{away, mark, phase, write_keeps}
use Rattle.vendor.specs.Found.{packet_moving, matrix_moving, may_move, one_of, is_kept, is_between, is_turned}

-- of three bits no two are up
at_most_one : (p q r : ℕ) → p < 2 → q < 2 → r < 2 → ((eqb p 1 && eqb q 1) || ((eqb p 1 && eqb r 1) || (eqb q 1 && eqb r 1))) ≡ false → p + (q + r) ≤ 1
at_most_one p q r a b c t = go (eqb p 1) (eqb q 1) (eqb r 1) refl refl refl t
  where
    down : (n : ℕ) → n < 2 → eqb n 1 ≡ false → n ≡ 0
    down n h e = let d : (n ≡ 1) → ⊥ = eqb-false n 1 e in omega arith

    go : (x y z : Bool) → eqb p 1 ≡ x → eqb q 1 ≡ y → eqb r 1 ≡ z → ((x && y) || ((x && z) || (y && z))) ≡ false → p + (q + r) ≤ 1
    go true true z e f g t = absurd (false≢true (sym t))
    go true false true e f g t = absurd (false≢true (sym t))
    go true false false e f g t = omega (arith, down q b f, down r c g)
    go false true true e f g t = absurd (false≢true (sym t))
    go false true false e f g t = omega (arith, down p a e, down r c g)
    go false false z e f g t = omega (arith, down p a e, down q b f)

single_hold : (n : ℕ) → two n ≡ false → bit 6 n + (bit 5 n + bit 4 n) ≤ 1
single_hold n = at_most_one (bit 6 n) (bit 5 n) (bit 4 n) (omega arith) (omega arith) (omega arith)

-- a packet: its view, its hold among the holds alone, and that where no two are up and it is, the byte of the holds alone has this one
pub record Packet (g : Group) : Type 0 where
  pub shown : Shown packets g
  pub same : (n : ℕ) → up g (only packets.groups n) ≡ up g n
  pub alone : (n : ℕ) → two n ≡ false → up g n ≡ true → only packets.groups n ≡ 2 ^ g.hold

pub avi_packet_lem : Packet avi
avi_packet_lem = record { shown = avi_shown; same = avi_same; alone = λ n t u. omega (arith, single_hold n t, eqb-true (bit 6 n) 1 u) }

pub audio_packet_lem : Packet audio
audio_packet_lem = record { shown = audio_shown; same = audio_same; alone = λ n t u. omega (arith, single_hold n t, eqb-true (bit 5 n) 1 u) }

pub gc_packet : Packet gc
gc_packet = record { shown = gc_shown; same = gc_same; alone = λ n t u. omega (arith, single_hold n t, eqb-true (bit 4 n) 1 u) }

-- a register that a group does not cover lies outside
outside : (g : Group) (a : ℕ) → covers g a ≡ false → (ltb a g.first || leb (g.first + g.count) a) ≡ true
outside g a e = go (leb g.first a) refl e
  where
    right : (b : Bool) → (b || true) ≡ true
    right true = refl
    right false = refl

    go : (b : Bool) → leb g.first a ≡ b → (b && ltb a (g.first + g.count)) ≡ false
        → (ltb a g.first || leb (g.first + g.count) a) ≡ true
    go true p q = rw (le-leb (g.first + g.count) a (ltb-false a (g.first + g.count) q)) (right (ltb a g.first))
    go false p q = rw (lt-ltb a g.first (leb-false g.first a p))

-- what was one of two, by a test of what may have moved
decided : (m : Bool) (x y regs o n : List ℕ) → (m ≡ false → y ≡ x) → (m ≡ true → y ≡ regs) → Either o n x
    → Decides (one_of m o n regs) (Either o n y)
decided true x y regs o n p q e =
    restated (⊎_map (λ h. q refl ∙ h) (λ h. q refl ∙ h)) (⊎_map (λ h. sym (q refl) ∙ h) (λ h. sym (q refl) ∙ h))
    (either (same_decides regs o) (same_decides regs n))
decided false x y regs o n p q e =
    record { passes = λ _. ⊎_map (λ h. p refl ∙ h) (λ h. p refl ∙ h) e; fails = λ f. absurd (false≢true (sym f)) }

module _ (s : Chip) (a v : ℕ) (whole : length s.image ≡ 256) (taken : (write_of s a v).refusal ≡ 0) where
  abbrev t : Chip
  t = (write_of s a v).chip

  abbrev w : Write
  w = a gets stored a v s.image

  is_put : t ≡ store w s
  is_put = ap (λ (w : Wrote). w.chip) (written_as s a v false (allowed s a v taken))

  single : two (holds_of packets t.image) ≡ false
  single = lone s a v taken

  -- a packet: what it has in use stays, or is what stands in its registers
  module _ (g : Group) (F : Packet g) where
    abbrev old : ℕ
    old = holds_of packets s.image

    abbrev new : ℕ
    new = holds_of packets t.image

    still : may_move (packet_moving g old t.image) a ≡ false → quiet g (only packets.groups old) (only packets.groups new) a ≡ true
    still m = rw (F.same new, F.same old) (go (up g new) refl m)
      where
        go : (u : Bool) → up g new ≡ u → (not u && (up g old || covers g a)) ≡ false
            → cond u (eqb (only packets.groups new) (2 ^ g.hold)) (not (up g old) && (ltb a g.first || leb (g.first + g.count) a)) ≡ true
        go true e q = eq-eqb _ _ (F.alone new single e)
        go false e q = rw (neither_left (up g old) (covers g a) q) (outside g a (neither_right (up g old) (covers g a) q))

    pub stays : may_move (packet_moving g old t.image) a ≡ false → in_use packets g t ≡ in_use packets g s
    stays m =
        ap (in_use packets g) is_put
        ∙ F.shown.keeps w s whole (subst (λ (n : ℕ). quiet g (only packets.groups old) n a ≡ true)
        (ap (λ (u : Chip). status packets u.image) is_put ∙ F.shown.tracks w s whole) (still m))

    pub moves : may_move (packet_moving g old t.image) a ≡ true → in_use packets g t ≡ registers_of g t.image
    moves m = down_part packets g t refl (go (up g new) m)
      where
        go : (u : Bool) → (not u && (up g old || covers g a)) ≡ true → u ≡ false
        go true q = absurd (false≢true q)
        go false q = refl

    decides : {o n : List ℕ} → Either o n (in_use packets g s) → Decides (is_kept (packet_moving g old t.image) (λ x. x) o n a t.image) (Either o n (in_use packets g t))
    decides = decided _ _ _ _ _ _ stays moves

  -- the coefficients: with the hold up or a change waiting nothing moves them; else a write to one of their registers may
  pub matrix_stays : may_move (matrix_moving t.waiting t.image) a ≡ false → in_use converter matrix t ≡ in_use converter matrix s
  matrix_stays m =
      ap (in_use converter matrix) is_put
      ∙ write_keeps w s whole (subst (λ (u : Chip). (not (eqb (phase u) 0) || away w) ≡ true) is_put (go t.waiting (held t) m))
    where
      go : (q u : Bool) → (not (q || u) && covers matrix a) ≡ false → (not (eqb (mark u q) 0) || away w) ≡ true
      go true true h = refl
      go true false h = refl
      go false true h = refl
      go false false h = outside matrix a h

  pub matrix_moves : may_move (matrix_moving t.waiting t.image) a ≡ true → in_use converter matrix t ≡ registers_of matrix t.image
  matrix_moves m = go t.waiting (held t) refl refl m
    where
      go : (q u : Bool) → t.waiting ≡ q → held t ≡ u → (not (q || u) && covers matrix a) ≡ true
          → in_use converter matrix t ≡ registers_of matrix t.image
      go true u e f h = absurd (false≢true h)
      go false true e f h = absurd (false≢true h)
      go false false e f h = down_part converter matrix t e f

  -- the mute
  shows : mute (lent_as t.image t.packet [] false) ≡ mute t
  unfolding gc_in_use in_use
  shows = refl

  muted : Decides (eqb (mute (lent_as t.image t.packet [] false)) 1) (Muted t)
  muted = rw shows (record { passes = λ e. is (eqb-true _ _ e); fails = λ f m. eqb-false _ _ f (one m) })
    where
      is : mute t ≡ 1 → Muted t
      is e = (omega arith, omega arith)

      one : Muted t → mute t ≡ 1
      one m = let x : bit 6 (gc_in_use t) ≡ 1 = m.0 in let y : bit 7 (gc_in_use t) ≡ 0 = m.1 in omega arith

  -- the cut after it
  module _ (o n : InUse) (av : Either o.avi n.avi (in_use packets avi s)) (au : Either o.audio n.audio (in_use packets audio s))
      (ma : Either o.matrix n.matrix (coefficients s)) where
    pub between_decides : Decides (is_between o n a (holds_of packets s.image) t.image t.packet t.waiting) (Between o n t)
    unfolding is_between coefficients
    between_decides =
        restated (λ h. record { muted = h.0; avi = h.1.0; audio = h.1.1.0; matrix = h.1.1.1 })
        (λ b. (b.muted, (b.avi, (b.audio, b.matrix))))
        (together muted (together (decides avi avi_packet_lem av) (together (decides audio audio_packet_lem au)
        (decided _ _ _ _ _ _ (λ m. ap fields (matrix_stays m)) (λ m. ap fields (matrix_moves m)) ma))))

-- ---- the event

-- a Vsync leaves all but the coefficients
pub vsync_use : (g : Group) (t : Chip) → in_use packets g (vsync_of t) ≡ in_use packets g t
unfolding in_use vsync_of
vsync_use g t = refl

pub vsync_muted : (t : Chip) → Muted t → Muted (vsync_of t)
unfolding gc_in_use in_use vsync_of
vsync_muted t m = m

module _ (t : Chip) where
  abbrev ends : Bool
  ends = t.waiting && not (up matrix (holds_of converter t.image))

  turned_stays : ends ≡ false → in_use converter matrix (vsync_of t) ≡ in_use converter matrix t
  turned_stays = go t.waiting (held t) refl refl
    where
      go : (q u : Bool) → t.waiting ≡ q → held t ≡ u → (q && not u) ≡ false → in_use converter matrix (vsync_of t) ≡ in_use converter matrix t
      go true true e f h = ap (in_use converter matrix) ((turned t).beside f)
      go true false e f h = absurd (false≢true (sym h))
      go false u e f h = ap (in_use converter matrix) ((turned t).idle e).0

  turned_moves : ends ≡ true → in_use converter matrix (vsync_of t) ≡ registers_of matrix t.image
  turned_moves h = (turned t).takes (not-true (held t) (both_right t.waiting _ h))

  pub turned_decides : (o n : InUse) → Between o n t → Decides (is_turned o n t.image t.waiting) (Between o n (vsync_of t))
  unfolding is_turned coefficients
  turned_decides o n b =
      restated (λ h. record {
        muted = vsync_muted t b.muted;
        avi = subst (Either o.avi n.avi) (sym (vsync_use avi t)) b.avi;
        audio = subst (Either o.audio n.audio) (sym (vsync_use audio t)) b.audio;
        matrix = h;
      }) (λ c. c.matrix)
      (decided ends _ _ _ _ _ (λ m. ap fields (turned_stays m)) (λ m. ap fields (turned_moves m)) b.matrix)
