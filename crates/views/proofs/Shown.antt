-- What the calls answer of a state, and after a write over slices. Assumes nothing.
use mathlib.Core.Path.{◌≡◌, refl, sym, ap, ◌∙◌}
use mathlib.Core.Logic.{◌↔◌, ◌≢◌}
use mathlib.Core.Bool.{Bool, true, false}
use Prim.Native.Nat.{ℕ, ◌+◌, ◌*◌, ◌<◌, ◌≤◌}
use native.Mathlib.Omega.{arith}
use lib.Dec.{eqb}
use borrow.Author.Tests.{eq-eqb, ne_eqb, eqb-true, eqb-false, not-true}
use Rattle.lists.proofs.Both.{neither_right}
use Rattle.bits.specs.Merge.{bit}
use Rattle.chip.specs.declared.Chip.{Chip}
use Rattle.chip.specs.Machine.{packets, holds_of, in_use, gc_in_use, mute}
use Rattle.chip.specs.Numbered.{Wrote}
use Rattle.chip.specs.Write.{lent_as, two, image_after, refuses, write_of, vsync_of}
use Rattle.chip.proofs.Writes.{allowed, stepped}
use Rattle.views.specs.Numbered.{Mute}
use Rattle.views.specs.Entry.{marked, mark_byte, Lent, state_of, slices_of, SliceAnswer, refused_entry, taken_entry, wrote_in, enter_of, turn_of}
use Rattle.views.specs.View.{lent_refusal, view_refusal, sent_of, mute_of}
use Rattle.views.specs.Sized.{LentSized}
use Rattle.views.specs.Refusals.{Sized}
use Rattle.views.specs.Theorems.{Slices, Entered, EnteredVsync}
use Rattle.views.specs.Faces.{Faces}
use Rattle.views.proofs.Seen.{cleared, later}
use Rattle.views.proofs.Used as used
use Rattle.views.proofs.Lent.{is_lent_lem, turn_in, let_in, wrote_number, wrote_refused, wrote_taken}

-- two bits, as one number and one by one
muted_bits : (a b : ℕ) → a < 2 → b < 2 → (a + 2 * b ≡ 1) ↔ ((a ≡ 1) × (b ≡ 0))
muted_bits a b h k = ((λ e. (omega arith, omega arith)), λ e. omega arith)

open_bits_lem : (a b : ℕ) → a < 2 → b < 2 → (a + 2 * b ≡ 2) ↔ ((a ≡ 0) × (b ≡ 1))
open_bits_lem a b h k = ((λ e. (omega arith, omega arith)), λ e. omega arith)

pub shown : (s : Chip) → Sized s → two (holds_of packets s.image) ≡ false → Faces s
unfolding sent_of mute_of gc_in_use in_use
shown s z l =
    let e : lent_refusal s.image s.packet ≡ 0 = cleared s.image s.packet (record { lengths = (z.image, z.packet); lone = l }) in
    let v : (which : ℕ) → which ≤ 1 → view_refusal s.image s.packet which ≡ 0 = λ which h. later s.image s.packet which h ∙ e in
    let m : mute_of s.image s.packet ≡ record { refusal = 0; mute = mute s } = rw e in
    let n : (mute_of s.image s.packet).mute ≡ mute s = ap (λ (m : Mute). m.mute) m in
    record {
      avi = rw (v 0 (omega arith));
      audio = rw (v 1 (omega arith));
      mute = m;
      muted = rw n (muted_bits (bit 6 (gc_in_use s)) (bit 7 (gc_in_use s)) (omega arith) (omega arith));
      opened = rw n (open_bits_lem (bit 6 (gc_in_use s)) (bit 7 (gc_in_use s)) (omega arith) (omega arith));
      count = used.counts s z.image z.coefficients;
      matrix = used.answered s z.image z.coefficients;
      twelve = used.said s z.image z.coefficients;
    }

-- ---- the slices and their state

one_byte : (w : Bool) → marked (mark_byte w) ≡ w
one_byte true = refl
one_byte false = refl

pub state_slices : (s : Chip) → state_of (slices_of s) ≡ s
state_slices s = ap (lent_as s.image s.packet s.coefficients) (one_byte s.waiting)

marks : (byte : ℕ) → (marked byte ≡ true) ↔ (byte ≢ 0)
marks byte = ((λ t. eqb-false byte 0 (not-true (eqb byte 0) t)), λ h. rw (ne_eqb byte 0 h))

pub slices : Slices
slices = record {
  marks = marks;
  takes = λ l. record { image = refl; packet = refl; coefficients = refl; waits = λ h. rw (ne_eqb _ _ h); none = λ h. rw (eq-eqb _ _ h) };
  leaves = λ s. record { image = refl; packet = refl; coefficients = refl; waits = λ h. rw h; none = λ h. rw h };
  back = state_slices;
}

pub slices_sized : (s : Chip) → Sized s → LentSized (slices_of s)
slices_sized s z = record { image = z.image; packet = z.packet; coefficients = z.coefficients; mark = refl }

module _ (l : Lent) (z : LentSized l) where
  abbrev s : Chip
  s = state_of l

  -- ---- a Vsync

  turned : turn_of l ≡ taken_entry (vsync_of s)
  turned = turn_in l (is_lent_lem l z)

  turned_sized : Sized (vsync_of s)
  unfolding vsync_of
  turned_sized = record { image = z.image; packet = z.packet; coefficients = z.coefficients }

  turned_state : state_of (turn_of l).slices ≡ vsync_of s
  turned_state = ap (λ (e : SliceAnswer). state_of e.slices) turned ∙ state_slices (vsync_of s)

  lone_still : two (holds_of packets l.image) ≡ false → two (holds_of packets (vsync_of s).image) ≡ false
  unfolding vsync_of
  lone_still h = h

  pub entered_vsync : EnteredVsync l
  entered_vsync = record {
    taken = turned;
    state = turned_state;
    sized = rw turned (slices_sized (vsync_of s) turned_sized);
    faces = λ h. rw turned_state (shown (vsync_of s) turned_sized (lone_still h));
  }

  -- ---- a write

  module _ (address value : ℕ) where
    abbrev wrote : Wrote
    wrote = write_of s address value

    same : enter_of l address value ≡ wrote_in l wrote
    same = let_in l address value (is_lent_lem l z)

    number : (enter_of l address value).refusal ≡ wrote.refusal
    number = ap (λ (e : SliceAnswer). e.refusal) same ∙ wrote_number l wrote

    taken : wrote.refusal ≡ 0 → enter_of l address value ≡ taken_entry wrote.chip
    taken h = same ∙ wrote_taken l wrote h

    refused : wrote.refusal ≢ 0 → enter_of l address value ≡ refused_entry l wrote.refusal
    refused h = same ∙ wrote_refused l wrote h

    after : Sized wrote.chip
    after =
        let t = stepped s address value z.image in
        record { image = t.sized ∙ z.image; packet = t.packet_sized z.packet; coefficients = t.coefficients_sized z.coefficients }

    -- a write that is taken leaves no two packet holds up
    lone : wrote.refusal ≡ 0 → two (holds_of packets wrote.chip.image) ≡ false
    unfolding refuses
    lone r =
        rw ((stepped s address value z.image).after r)
        (neither_right (two (holds_of packets s.image)) (two (holds_of packets (image_after s address value))) (allowed s address value r))

    state : state_of (enter_of l address value).slices ≡ wrote.chip
    state = go (eqb wrote.refusal 0) refl
      where
        go : (b : Bool) → eqb wrote.refusal 0 ≡ b → state_of (enter_of l address value).slices ≡ wrote.chip
        go true e = ap (λ (e : SliceAnswer). state_of e.slices) (taken (eqb-true _ _ e)) ∙ state_slices wrote.chip
        go false e =
            let n = eqb-false _ _ e in
            ap (λ (e : SliceAnswer). state_of e.slices) (refused n) ∙ sym ((stepped s address value z.image).refused n)

    sized : LentSized (enter_of l address value).slices
    sized = go (eqb wrote.refusal 0) refl
      where
        go : (b : Bool) → eqb wrote.refusal 0 ≡ b → LentSized (enter_of l address value).slices
        go true e = rw (taken (eqb-true _ _ e)) (slices_sized wrote.chip after)
        go false e = rw (refused (eqb-false _ _ e)) z

    pub entered : Entered l address value
    entered = record {
      number = number;
      taken = taken;
      refused = refused;
      state = state;
      sized = sized;
      faces = λ r. rw state (shown wrote.chip after (lone (sym number ∙ r)));
    }
