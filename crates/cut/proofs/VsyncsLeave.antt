-- Vsyncs do not touch registers and packets: what a run leaves of these is what its writes alone leave. Assumes nothing.
use mathlib.Core.Path.{◌≡◌, refl, sym, ap, subst, ◌∙◌}
use mathlib.Core.Logic.{◌⊎◌, inl, inr, ⊎_map, ⊎_elim}
use mathlib.Core.Bool.{Bool, true, false}
use mathlib.Core.List.{List, [], ◌∷◌, ◌++◌}
use Prim.Native.Nat.{ℕ, zero, suc, ◌<◌, suc-le-suc}
use native.Mathlib.Nat.{not-suc-le-zero, le_of_suc-le-suc, zero-lt-suc, suc-ne-zero}
use lib.ListN.{length, get_or, take}
use Rattle.chip.specs.declared.Chip.{Chip}
use Rattle.chip.specs.Numbered.{Wrote}
use Rattle.chip.specs.Machine.{Write, ◌gets◌, Group, packets, in_use, gc_in_use, Muted, Open}
use Rattle.chip.specs.Write.{lent_as, put, refuses, write_of, vsync_of}
use Rattle.chip.proofs.Writes.{wrote, written_as}
use Rattle.cut.specs.Run.{Event, write, vsync, happens, run, cut, event, writes_of, writes_by}
use Rattle.cut.specs.Room.{sent}
use Rattle.cut.proofs.Repeated.{turned_again}

-- the same registers and the same packet buffer
pub record Alike (s t : Chip) : Type 0 where
  pub image : s.image ≡ t.image
  pub packet : s.packet ≡ t.packet

pub alike_self : (s : Chip) → Alike s s
alike_self s = record { image = refl; packet = refl }

-- what is read off them
pub alike_use : (g : Group) (s t : Chip) → Alike s t → in_use packets g s ≡ in_use packets g t
unfolding in_use
alike_use g s t a = rw (a.image, a.packet)

pub alike_gc : (s t : Chip) → Alike s t → gc_in_use s ≡ gc_in_use t
unfolding gc_in_use in_use
alike_gc s t a = rw (a.image, a.packet)

pub alike_muted : (s t : Chip) → Alike s t → Muted t → Muted s
alike_muted s t a m = rw (alike_gc s t a) m

pub alike_open : (s t : Chip) → Alike s t → Open t → Open s
alike_open s t a m = rw (alike_gc s t a) m

-- a write does the same to both
module _ (a v : ℕ) where
  pub record Written (s t : Chip) : Type 0 where
    pub refusal : (write_of s a v).refusal ≡ (write_of t a v).refusal
    pub after : Alike (write_of s a v).chip (write_of t a v).chip

  module _ (i p c c' : List ℕ) (w w' : Bool) where
    abbrev s : Chip
    s = lent_as i p c w

    abbrev t : Chip
    t = lent_as i p c' w'

    -- what one of them has after the write the other has
    alike_by : {A : Type 0} (of : Wrote → A) → ((b : Bool) → of (wrote s a v b) ≡ of (wrote t a v b)) → of (write_of s a v) ≡ of (write_of t a v)
    unfolding refuses
    alike_by of h =
        ap of (written_as s a v (refuses s a v) refl) ∙ h (refuses s a v) ∙ sym (ap of (written_as t a v (refuses t a v) refl))

    same_slices : Written s t
    unfolding put
    same_slices = record {
      refusal = alike_by (λ w. w.refusal) number;
      after = record { image = alike_by (λ w. w.chip.image) image; packet = alike_by (λ w. w.chip.packet) packet };
    }
      where
        number : (b : Bool) → (wrote s a v b).refusal ≡ (wrote t a v b).refusal
        number true = refl
        number false = refl

        image : (b : Bool) → (wrote s a v b).chip.image ≡ (wrote t a v b).chip.image
        image true = refl
        image false = refl

        packet : (b : Bool) → (wrote s a v b).chip.packet ≡ (wrote t a v b).chip.packet
        packet true = refl
        packet false = refl

  pub alike_write : (s t : Chip) → Alike s t → Written s t
  alike_write s t h =
      subst (λ (i : List ℕ). Written s (lent_as i t.packet t.coefficients t.waiting)) h.image
      (subst (λ (p : List ℕ). Written s (lent_as s.image p t.coefficients t.waiting)) h.packet
      (same_slices s.image s.packet s.coefficients t.coefficients s.waiting t.waiting))

pub alike_vsync : (s t : Chip) → Alike s t → Alike (vsync_of s) t
unfolding vsync_of
alike_vsync s t h = record { image = h.image; packet = h.packet }

-- ---- runs

pub run_alike : (es : List Event) (s t : Chip) → Alike s t → Alike (run es s) (run (sent (writes_of es)) t)
run_alike [] s t h = h
run_alike (write w ∷ es) s t h =
    run_alike es (write_of s w.address w.value).chip (write_of t w.address w.value).chip (alike_write w.address w.value s t h).after
run_alike (vsync ∷ es) s t h = run_alike es (vsync_of s) t (alike_vsync s t h)

pub writes_take : (es : List Event) (k : ℕ) → writes_of (take k es) ≡ take (writes_by es k) (writes_of es)
writes_take es zero = refl
writes_take [] (suc k) = refl
writes_take (write w ∷ es) (suc k) = ap (λ (l : List Write). w ∷ l) (writes_take es k)
writes_take (vsync ∷ es) (suc k) = writes_take es k

sent_take : (ws : List Write) (k : ℕ) → sent (take k ws) ≡ take k (sent ws)
sent_take ws zero = refl
sent_take [] (suc k) = refl
sent_take (w ∷ ws) (suc k) = ap (λ (l : List Event). write w ∷ l) (sent_take ws k)

-- a cut, and the cut of the writes alone
pub cut_alike : (es : List Event) (s : Chip) (k : ℕ) → Alike (cut es s k) (cut (sent (writes_of es)) s (writes_by es k))
cut_alike es s k =
    subst (λ (l : List Event). Alike (cut es s k) (run l s)) (ap sent (writes_take es k) ∙ sent_take (writes_of es) (writes_by es k))
    (run_alike (take k es) s s (alike_self s))

-- the event at a place: a Vsync, or the next write of the list
pub which : (es : List Event) (k : ℕ) → k < length es
    → (event es k ≡ vsync) ⊎ ((event es k ≡ write (get_or (writes_of es) (writes_by es k) (0 gets 0))) × (writes_by es k < length (writes_of es)))
which [] k h = absurd (not-suc-le-zero h)
which (write w ∷ es) zero h = inr (refl, zero-lt-suc _)
which (vsync ∷ es) zero h = inl refl
which (write w ∷ es) (suc k) h = ⊎_map (λ e. e) (λ e. (e.0, suc-le-suc e.1)) (which es k (le_of_suc-le-suc h))
which (vsync ∷ es) (suc k) h = which es k (le_of_suc-le-suc h)

-- one event more has one write more, or none
pub counted : (es : List Event) (k : ℕ) → (writes_by es (suc k) ≡ writes_by es k) ⊎ (writes_by es (suc k) ≡ suc (writes_by es k))
counted [] zero = inl refl
counted [] (suc k) = inl refl
counted (write w ∷ es) zero = inr refl
counted (vsync ∷ es) zero = inl refl
counted (write w ∷ es) (suc k) = ⊎_map (λ e. ap suc e) (λ e. ap suc e) (counted es k)
counted (vsync ∷ es) (suc k) = counted es k

-- a cut with a write to come is one of the list
pub within : (es : List Event) (k : ℕ) → writes_by es k < length (writes_of es) → k < length es
within [] zero h = absurd (not-suc-le-zero h)
within [] (suc k) h = absurd (not-suc-le-zero h)
within (e ∷ es) zero h = zero-lt-suc _
within (write w ∷ es) (suc k) h = suc-le-suc (within es k (le_of_suc-le-suc h))
within (vsync ∷ es) (suc k) h = suc-le-suc (within es k h)

-- "Before the first write nothing has moved", but by Vsync
pub before_first : (es : List Event) (s : Chip) (k : ℕ) → writes_by es k ≡ 0 → (cut es s k ≡ s) ⊎ (cut es s k ≡ vsync_of s)
before_first es s zero h = inl refl
before_first [] s (suc k) h = inl refl
before_first (write w ∷ es) s (suc k) h = absurd (suc-ne-zero _ h)
before_first (vsync ∷ es) s (suc k) h =
    ⊎_elim (λ e. inr e) (λ e. inr (e ∙ turned_again s)) (before_first es (vsync_of s) k h)

pub writes_append : (es fs : List Event) → writes_of (es ++ fs) ≡ writes_of es ++ writes_of fs
writes_append [] fs = refl
writes_append (write w ∷ es) fs = ap (λ (l : List Write). w ∷ l) (writes_append es fs)
writes_append (vsync ∷ es) fs = writes_append es fs

pub run_append : (es fs : List Event) (s : Chip) → run (es ++ fs) s ≡ run fs (run es s)
run_append [] fs s = refl
run_append (e ∷ es) fs s = run_append es fs (happens e s).chip
