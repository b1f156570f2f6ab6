-- A careful run of two writes or more, whoever made the list: no register but the mute's own moves while the picture is not muted, and the
-- last event writes the mute's own where it opens the picture. Assumes nothing.
use mathlib.Core.Path.{◌≡◌, refl, sym, ap, ◌∙◌}
use mathlib.Core.Logic.{◌⊎◌, inl, inr, ⊎_elim, ◌≢◌}
use mathlib.Core.Bool.{Bool, true, false, false≢true}
use mathlib.Core.List.{List, [], ◌∷◌}
use Prim.Native.Nat.{ℕ, zero, suc, ◌<◌, ◌≤◌}
use native.Mathlib.Nat.{not-suc-le-zero, le_of_suc-le-suc}
use native.Mathlib.Omega.{arith}
use lib.Dec.{eqb, ltb, lit<}
use lib.ListN.{length, get_or, drop}
use lib.Seq.{get_or-take, get_or-drop, take_all}
use borrow.Author.Tests.{eqb-true, eqb-false, ltb-true, ltb-false}
use Rattle.bits.specs.Merge.{bit}
use Rattle.map.specs.Map as reg
use Rattle.chip.specs.declared.Chip.{Chip}
use Rattle.chip.specs.Machine.{Write, gc, packets, up, holds_of, gc_in_use, Muted, Open}
use Rattle.chip.proofs.Writes.{stepped}
use Rattle.cut.specs.Run.{Event, write, vsync, happens, run, cut, event, writes_of, writes_by, InUse, Careful, Covered}
use Rattle.cut.proofs.GroupStays.{down_part}
use Rattle.cut.proofs.Repeated.{vsync_image}
use Rattle.cut.proofs.VsyncsLeave.{which, before_first}
use Rattle.cut.proofs.AtEveryCut.{Ready}
use Rattle.cut.proofs.MendedRun.{sized, gc_down}

-- the register that an event writes; a Vsync writes none
abbrev pub address : Event → ℕ
address (write w) = w.address
address vsync = 256

-- with the GC hold down the mute is that of the register
pub gc_byte : (t : Chip) → up gc (holds_of packets t.image) ≡ false → gc_in_use t ≡ get_or t.image reg.av_mute 0
unfolding gc_in_use
gc_byte t h =
    ap (λ (l : List ℕ). get_or l 0 0) (down_part packets gc t refl h) ∙ get_or-take {A = ℕ} 1 (drop reg.av_mute t.image) 0 0 (lit< tt)
    ∙ get_or-drop reg.av_mute t.image 0 0

-- one event more
next_cut : (es : List Event) (s : Chip) (k : ℕ) → k < length es → cut es s (suc k) ≡ (happens (event es k) (cut es s k)).chip
next_cut [] s k h = absurd (not-suc-le-zero h)
next_cut (e ∷ es) s zero h = refl
next_cut (e ∷ es) s (suc k) h = next_cut es (happens e s).chip k (le_of_suc-le-suc h)

-- past the end nothing more happens
past : (es : List Event) (s : Chip) (k : ℕ) → length es ≤ k → cut es s k ≡ run es s
past es s k h = ap (λ (l : List Event). run l s) (take_all k es h)

elsewhere : (e : Event) (s : Chip) (a : ℕ) → length s.image ≡ 256 → (address e ≢ a) → get_or (happens e s).chip.image a 0 ≡ get_or s.image a 0
elsewhere (write w) s a z n = (stepped s w.address w.value z).elsewhere a (λ e. n (sym e))
elsewhere vsync s a z n = ap (λ (l : List ℕ). get_or l a 0) (vsync_image s)

-- a write is one more
one_more : (es : List Event) (k : ℕ) (w : Write) → k < length es → event es k ≡ write w → writes_by es (suc k) ≡ suc (writes_by es k)
one_more [] k w h e = absurd (not-suc-le-zero h)
one_more (write v ∷ es) zero w h e = refl
one_more (vsync ∷ es) zero w h e = absurd (false≢true (ap is_write e))
  where
    is_write : Event → Bool
    is_write (write w) = true
    is_write vsync = false
one_more (write v ∷ es) (suc k) w h e = ap suc (one_more es k w (le_of_suc-le-suc h) e)
one_more (vsync ∷ es) (suc k) w h e = one_more es k w (le_of_suc-le-suc h) e

module _ (was : List Event → InUse) (new : InUse) (es : List Event) (s : Chip) (r : Ready s.image) (c : Careful was new es s) where
  -- an event that writes another register, or none, leaves the mute
  same_mute : (k : ℕ) → k < length es → address (event es k) ≢ reg.av_mute → gc_in_use (cut es s (suc k)) ≡ gc_in_use (cut es s k)
  same_mute k h n =
      gc_byte (cut es s (suc k)) (gc_down es s r c.fair c.taken (suc k))
      ∙ ap (λ (t : Chip). get_or t.image reg.av_mute 0) (next_cut es s k h)
      ∙ elsewhere (event es k) (cut es s k) reg.av_mute (sized es s r.whole k) n
      ∙ sym (gc_byte (cut es s k) (gc_down es s r c.fair c.taken k))

  -- the event that opens the picture writes the mute's own register
  pub opens : (k : ℕ) → 0 < writes_by es k → writes_by es k < length (writes_of es) → suc k ≡ length es → Open (run es s)
      → address (event es k) ≡ reg.av_mute
  opens k lo hi l o = go (eqb (address (event es k)) reg.av_mute) refl
    where
      go : (b : Bool) → eqb (address (event es k)) reg.av_mute ≡ b → address (event es k) ≡ reg.av_mute
      go true e = eqb-true _ _ e
      go false e =
          let h : k < length es = omega (arith, l) in
          let m : bit 6 (gc_in_use (cut es s k)) ≡ 1 = (c.between k lo hi).muted.0 in
          let q : gc_in_use (run es s) ≡ gc_in_use (cut es s k) =
          ap gc_in_use (sym (past es s (suc k) (omega (arith, l)))) ∙ same_mute k h (eqb-false _ _ e) in
          let x : bit 6 (gc_in_use (run es s)) ≡ 0 = o.0 in
          let y : bit 6 (gc_in_use (run es s)) ≡ 1 = ap (bit 6) q ∙ m in
          absurd (omega (arith, x, y))

  -- before the last write and after the first it is muted
  moved_muted : 2 ≤ length (writes_of es) → (a k : ℕ) → a ≢ reg.av_mute → get_or (cut es s (suc k)).image a 0 ≢ get_or (cut es s k).image a 0
      → Muted (cut es s k) × Muted (cut es s (suc k))
  moved_muted two a k n m = go (ltb k (length es)) refl
    where
      both : (w : Write) → k < length es → event es k ≡ write w → writes_by es k < length (writes_of es) → address (event es k) ≡ a
          → Muted (cut es s k) × Muted (cut es s (suc k))
      both w h e hi f = first (writes_by es k) refl
        where
          q : gc_in_use (cut es s (suc k)) ≡ gc_in_use (cut es s k)
          q = same_mute k h (λ x. n (sym f ∙ x))

          more : writes_by es (suc k) ≡ suc (writes_by es k)
          more = one_more es k w h e

          first : (j : ℕ) → writes_by es k ≡ j → Muted (cut es s k) × Muted (cut es s (suc k))
          first zero z =
              let b = (c.between (suc k) (omega (arith, more)) (omega (arith, more, z, two))).muted in
              ((ap (bit 6) (sym q) ∙ b.0, ap (bit 7) (sym q) ∙ b.1), b)
          first (suc j) z =
              let b = (c.between k (omega (arith, z)) hi).muted in
              (b, (ap (bit 6) q ∙ b.0, ap (bit 7) q ∙ b.1))

      stays : k < length es → (address (event es k) ≢ a) → get_or (cut es s (suc k)).image a 0 ≡ get_or (cut es s k).image a 0
      stays h f = ap (λ (t : Chip). get_or t.image a 0) (next_cut es s k h)
          ∙ elsewhere (event es k) (cut es s k) a (sized es s r.whole k) f

      turns : k < length es → event es k ≡ vsync → get_or (cut es s (suc k)).image a 0 ≡ get_or (cut es s k).image a 0
      turns h e = ap (λ (t : Chip). get_or t.image a 0) (next_cut es s k h ∙ ap (λ (v : Event). (happens v (cut es s k)).chip) e)
          ∙ ap (λ (l : List ℕ). get_or l a 0) (vsync_image (cut es s k))

      go : (t : Bool) → ltb k (length es) ≡ t → Muted (cut es s k) × Muted (cut es s (suc k))
      go true e = at (eqb (address (event es k)) a) refl
        where
          h : k < length es
          h = ltb-true k (length es) e

          at : (t : Bool) → eqb (address (event es k)) a ≡ t → Muted (cut es s k) × Muted (cut es s (suc k))
          at true f = ⊎_elim (λ v. absurd (m (turns h v))) (λ v. both _ h v.0 v.1 (eqb-true _ _ f)) (which es k h)
          at false f = absurd (m (stays h (eqb-false _ _ f)))
      go false e =
          let l : length es ≤ k = ltb-false k (length es) e in
          absurd (m (ap (λ (t : Chip). get_or t.image a 0) (past es s (suc k) (omega (arith, l)) ∙ sym (past es s k l))))

  vic_muted : (k : ℕ) → get_or (cut es s k).image reg.vic_manual 0 ≢ get_or s.image reg.vic_manual 0
      → Muted (cut es s k) ⊎ (length (writes_of es) ≤ writes_by es k)
  vic_muted k m = go (ltb (writes_by es k) (length (writes_of es))) refl
    where
      some : (j : ℕ) → writes_by es k ≡ j → 0 < writes_by es k
      some zero e = absurd (⊎_elim (λ q. m (ap (λ (t : Chip). get_or t.image reg.vic_manual 0) q))
          (λ q. m (ap (λ (t : Chip). get_or t.image reg.vic_manual 0) q ∙ ap (λ (l : List ℕ). get_or l reg.vic_manual 0) (vsync_image s)))
          (before_first es s k e))
      some (suc j) e = omega (arith, e)

      go : (t : Bool) → ltb (writes_by es k) (length (writes_of es)) ≡ t → Muted (cut es s k) ⊎ (length (writes_of es) ≤ writes_by es k)
      go true e = inl (c.between k (some (writes_by es k) refl) (ltb-true _ _ e)).muted
      go false e = inr (ltb-false _ _ e)

  pub covered : 2 ≤ length (writes_of es) → Covered es s
  covered two = record { moves = moved_muted two; vic = vic_muted }
