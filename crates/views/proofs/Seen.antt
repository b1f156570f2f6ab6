-- What a view shows, and what its refusals say. Assumes nothing.
use mathlib.Core.Path.{◌≡◌, refl, sym, ap, ◌∙◌}
use mathlib.Core.Logic.{◌≢◌, ◌⊎◌}
use mathlib.Core.Bool.{Bool, true, false, cond, not, ◌&&◌}
use mathlib.Core.List.{List, [], ◌∷◌}
use Prim.Native.Nat.{ℕ, ◌+◌, ◌*◌, ◌-◌, ◌/◌, ◌%◌, ◌≤◌, ◌<◌}
use native.Mathlib.Omega.{arith}
use lib.Dec.{eqb, ltb, lit<}
use lib.ListN.{length, get_or, take, drop}
use lib.Seq.{get_or-take, get_or-drop}
use borrow.Author.Tests.{lt-ltb, le-ltb, ltb-false, eq-eqb, ne_eqb, eqb-true, not-false}
use Rattle.lists.proofs.Both.{both_left, both_right}
use Rattle.lists.proofs.Decides.{Decides, opposite, equal, less, one_fails}
use Rattle.refusals.specs.Rows.{field_out_of_range, Given}
use Rattle.refusals.specs.Tests.{◌if◌}
use Rattle.refusals.proofs.Tests.{Decided, lowest_given, none_at, numbered}
use Rattle.views.specs.Numbered.{Part, Mute}
use Rattle.chip.specs.Machine.{Group, avi, audio, gc, packets, up, holds_of, in_use, gc_in_use, mute, registers_of}
use Rattle.chip.specs.Write.{two}
use Rattle.views.specs.View.{packet_at, viewed_of, lent_refusal, view_refusal, sent_of, placed, no_part, sent_part, start_in, mute_of, no_mute, lent_tests}
use Rattle.views.specs.Refusals.{bytes_in, SentFrom, lent_rules, view_rules, ViewRefusals}
use Rattle.bits.specs.Merge.{bit}
use Rattle.bits.proofs.Laws.{bit_code, two_bits_code}
use Rattle.chip.proofs.Writes.{two_up}

-- one of two lengths is another than it is to be; both are as they are to be
pub unlike : (a b m n : ℕ) → Decides (not (eqb a m && eqb b n)) ((a ≢ m) ⊎ (b ≢ n))
unlike a b m n = one_fails (eqb a m) (eqb b n) (opposite (equal a m)) (opposite (equal b n))

pub both_long : (a b m n : ℕ) → not (eqb a m && eqb b n) ≡ false → (a ≡ m) × (b ≡ n)
both_long a b m n e = let t = not-false (eqb a m && eqb b n) e in (eqb-true a m (both_left _ _ t), eqb-true b n (both_right (eqb a m) _ t))

module _ (image packet : List ℕ) where
  -- no refusal: both slices have their lengths, and no two holds are up
  pub record Clear : Type 0 where
    pub lengths : (length image ≡ 256) × (length packet ≡ 32)
    pub lone : two (holds_of packets image) ≡ false

  pub clear : lent_refusal image packet ≡ 0 → Clear
  unfolding lent_refusal
  clear e =
      record { lengths = both_long _ _ 256 32 (none_at (lent_tests image packet) 0 e); lone = none_at (lent_tests image packet) 1 e }

  pub cleared : Clear → lent_refusal image packet ≡ 0
  unfolding lent_refusal
  cleared k = rw (eq-eqb _ _ k.lengths.0, eq-eqb _ _ k.lengths.1, k.lone)

  lent_decided : Decided (lent_tests image packet) (lent_rules image packet)
  lent_decided = (refl, unlike (length image) (length packet) 256 32, λ f. (refl, two_up image, λ g. tt))

  view_given : (which : ℕ) → Given (view_rules image packet which) (view_refusal image packet which)
  unfolding view_refusal
  view_given which =
      lowest_given (field_out_of_range if ltb 1 which ∷ lent_tests image packet) (view_rules image packet which) refl (refl, less 1 which, λ f. lent_decided)

  lent_given : Given (lent_rules image packet) (lent_refusal image packet)
  unfolding lent_refusal
  lent_given = lowest_given (lent_tests image packet) (lent_rules image packet) refl lent_decided

  module _ (which : ℕ) where
    pub five : 1 < which → view_refusal image packet which ≡ 5
    unfolding view_refusal
    five h = rw (lt-ltb 1 which h)

    pub later : which ≤ 1 → view_refusal image packet which ≡ lent_refusal image packet
    unfolding view_refusal lent_refusal
    later h = rw (le-ltb 1 which h)

    pub none : view_refusal image packet which ≡ 0 → lent_refusal image packet ≡ 0
    unfolding view_refusal
    none e = sym (later (ltb-false 1 which (none_at (field_out_of_range if ltb 1 which ∷ lent_tests image packet) 0 e))) ∙ e

    -- a part of no refusal lies within its slice
    abbrev p : Part
    p = sent_part image packet which

    abbrev g : Group
    g = packet_at which

    pub taken : view_refusal image packet which ≡ 0 → sent_part image packet which ≡ placed (up g (holds_of packets image)) g.first g.count
    unfolding sent_part
    taken e = rw (eq-eqb _ _ e)

    pub refused : view_refusal image packet which ≢ 0 → sent_part image packet which ≡ no_part (view_refusal image packet which)
    unfolding sent_part
    refused h = rw (ne_eqb _ _ h)

    pub bytes : bytes_in (sent_part image packet which) image packet ≡ sent_of image packet which
    unfolding sent_part sent_of in_use
    bytes = go (eqb (view_refusal image packet which) 0) (up g (holds_of packets image))
      where
        go : (b t : Bool) → bytes_in (cond b (placed t g.first g.count) (no_part (view_refusal image packet which))) image packet
            ≡ cond b (cond t (take g.count packet) (registers_of g image)) []
        go true true = refl
        go true false = refl
        go false t = refl

    empty : view_refusal image packet which ≢ 0 → sent_of image packet which ≡ []
    unfolding sent_of
    empty h = rw (ne_eqb _ _ h)

    part_numbered : (sent_part image packet which).refusal ≡ view_refusal image packet which
    unfolding sent_part
    part_numbered = numbered no_part _ (λ (p : Part). p.refusal) (view_refusal image packet which) (λ _. go (up g (holds_of packets image))) refl
      where
        go : (b : Bool) → (placed b g.first g.count).refusal ≡ 0
        go true = refl
        go false = refl

    -- a part lies within its slice, and one of the buffer would lie within the image too
    pub within : (p : Part) → p ≡ sent_part image packet which
        → (p.held ≡ 1 → (p.start + p.len ≤ length packet) × (p.start + p.len ≤ length image)) × (p.held ≢ 1 → p.start + p.len ≤ length image)
    unfolding sent_part
    within p e = rw e (go (eqb (view_refusal image packet which) 0) refl (up g (holds_of packets image)) (eqb which 0))
      where
        go : (b : Bool) → eqb (view_refusal image packet which) 0 ≡ b → (t w : Bool)
            → let g : Group = cond w avi audio in
            let p : Part = cond b (placed t g.first g.count) (no_part (view_refusal image packet which)) in
            (p.held ≡ 1 → (p.start + p.len ≤ length packet) × (p.start + p.len ≤ length image)) × (p.held ≢ 1 → p.start + p.len ≤ length image)
        go true e true true = let k = (clear (none (eqb-true _ 0 e))).lengths in ((λ h. (omega arith, omega arith)), λ h. omega arith)
        go true e true false = let k = (clear (none (eqb-true _ 0 e))).lengths in ((λ h. (omega arith, omega arith)), λ h. omega arith)
        go true e false true = let k = (clear (none (eqb-true _ 0 e))).lengths in ((λ h. (omega arith, omega arith)), λ h. omega arith)
        go true e false false = let k = (clear (none (eqb-true _ 0 e))).lengths in ((λ h. (omega arith, omega arith)), λ h. omega arith)
        go false e t w = ((λ h. (omega arith, omega arith)), λ h. omega arith)

    -- the bytes from its start to its end are those that are sent, and it starts where its numbers say
    pub reads : (p : Part) → p ≡ sent_part image packet which → (i k : ℕ × ℕ) (from : List ℕ) (at : ℕ × ℕ)
        → (cond (eqb p.held 1) packet image ≡ from) × (cond (eqb p.held 1) k i ≡ at)
        → (take (p.start + p.len - p.start) (drop p.start from) ≡ sent_of image packet which)
        × ((at.0, p.start + at.1) ≡ start_in (sent_part image packet which) i k)
    reads p e i k from at f =
        let n : p.start + p.len - p.start ≡ p.len = omega arith in
        (rw (n, ← f.0) (ap (λ (q : Part). bytes_in q image packet) e ∙ bytes), rw (← f.1) (ap (λ (q : Part). start_in q i k) e))

  -- which slice, by the bit of the packet's hold
  from_slice : (which : ℕ) → view_refusal image packet which ≡ 0 → let g : Group = packet_at which in
      SentFrom (bit g.hold (holds_of packets image)) g.first g.count (sent_part image packet which)
  from_slice which e = ((λ h. taken which e ∙ rw h), λ h. taken which e ∙ rw h)

  -- beside a refusal no mute bits
  pub mute_refused_lem : lent_refusal image packet ≢ 0 → no_mute (lent_refusal image packet) ≡ mute_of image packet
  unfolding mute_of
  mute_refused_lem h = sym (rw (ne_eqb _ _ h))

  -- the mute bits, off the buffer's first byte where the GC hold is up, else off the register
  pub mute_held_lem : get_or image 0x4A 0 / 16 % 2 ≡ 1 → get_or packet 0 0 / 64 % 4 ≡ mute (viewed_of image packet)
  unfolding gc_in_use in_use
  mute_held_lem h = sym (simp (bit_code 4 (get_or image 0x4A 0), eq-eqb _ _ h, get_or-take 1 packet 0 0 (lit< tt), two_bits_code 6 (get_or packet 0 0)))

  pub mute_shown : (byte : ℕ) → byte ≡ cond (up gc (holds_of packets image)) (get_or packet 0 0) (get_or image 0x4B 0)
      → byte / 64 % 4 ≡ mute (viewed_of image packet)
  unfolding gc_in_use in_use
  mute_shown byte e = sym (two_bits_code 6 byte) ∙ ap (λ (n : ℕ). bit 6 n + 2 * bit 7 n) (e ∙ go (up gc (holds_of packets image)))
    where
      go : (t : Bool) → cond t (get_or packet 0 0) (get_or image 0x4B 0) ≡ get_or (cond t (take 1 packet) (registers_of gc image)) 0 0
      go true = sym (get_or-take 1 packet 0 0 (lit< tt))
      go false = sym (get_or-take 1 (drop 0x4B image) 0 0 (lit< tt) ∙ get_or-drop 0x4B image 0 0)

  mute_numbered : (mute_of image packet).refusal ≡ lent_refusal image packet
  unfolding mute_of
  mute_numbered = numbered no_mute _ (λ (m : Mute). m.refusal) (lent_refusal image packet) (λ _. refl) refl

  pub refusals : ViewRefusals image packet
  refusals = record {
    view = view_given;
    part = part_numbered;
    empty = λ which h. (empty which h, refused which h);
    mute = rw mute_numbered lent_given;
    zero = λ h. ap (λ (m : Mute). m.mute) (sym (mute_refused_lem (λ e. h (mute_numbered ∙ e))));
    bytes = bytes;
    avi = from_slice 0;
    audio = from_slice 1;
  }
