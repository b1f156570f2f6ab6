-- A write and a Vsync over lent slices. Assumes nothing.
use mathlib.Core.Path.{◌≡◌, refl, sym, ◌∙◌}
use mathlib.Core.Logic.{◌≢◌}
use mathlib.Core.Bool.{Bool, true, false, not}
use mathlib.Core.List.{List, [], ◌∷◌}
use Prim.Native.Nat.{ℕ}
use native.Mathlib.Omega.{arith}
use lib.Dec.{eqb}
use lib.ListN.{length, set, replicate}
use Rattle.lists.proofs.Copied.{over_whole}
use borrow.Author.Tests.{eqb-true, eq-eqb, ne_eqb, not-false}
use Rattle.lists.proofs.Both.{both_left, both_right}
use Rattle.lists.proofs.Decides.{Decides, opposite, equal, one_fails}
use mir.Val.{bool_byte}
use Rattle.refusals.specs.declared.Refusal.{Refusal}
use Rattle.refusals.specs.Numbered.{refusal_number}
use Rattle.refusals.specs.Rows.{image_length, Given}
use Rattle.refusals.specs.Tests.{◌if◌, lowest, answer}
use Rattle.refusals.proofs.Tests.{Decided, lowest_given, in_stages, none_at, numbered}
use Rattle.chip.specs.declared.Chip.{Chip}
use Rattle.std.specs.Prelude.{Result, Ok, Err}
use Rattle.chip.specs.Numbered.{Wrote, wrote_told, applied_told}
use Rattle.chip.specs.Write.{write_of, vsync_of}
use Rattle.chip.specs.Step.{write_rules}
use Rattle.views.specs.Entry.{mark_byte, is_sized, Lent, state_of, SliceAnswer, refused_entry, taken_entry, wrote_in, is_lent, Gathers, enter_tests, enter_of, turn_of}
use Rattle.views.specs.Sized.{LentSized}
use Rattle.views.specs.Refusals.{Sized}
use Rattle.views.specs.Refusals.{WrongLengths}
use Rattle.views.specs.Refusals.{WrongLent, turn_rules, WriteRefusals, VsyncRefusals}
use Rattle.chip.proofs.Writes.{stepped}
use Rattle.views.proofs.Seen.{unlike}
use Rattle.refusals.proofs.Told.{refusal_some, by_refusal}

-- the three lengths of a state
pub sized : (s : Chip) → not (is_sized s) ≡ false → Sized s
sized s e =
    let t = not-false (is_sized s) e in
    let u = both_right (eqb (length s.image) 256) _ t in
    record {
      image = eqb-true _ _ (both_left _ _ t);
      packet = eqb-true _ _ (both_left _ _ u);
      coefficients = eqb-true _ _ (both_right (eqb (length s.packet) 32) _ u);
    }

pub wrong_lengths : (s : Chip) → Decides (not (is_sized s)) (WrongLengths s)
wrong_lengths s =
    one_fails (eqb (length s.image) 256) _ (opposite (equal _ 256)) (unlike (length s.packet) (length s.coefficients) 32 24)

-- slices of these lengths are the state that is gathered
pub gathered_whole : (s state : Chip) → Sized s → Gathers s state → state ≡ s
gathered_whole s state z g =
    g ∙ rw (
      over_whole s.image (replicate 256 0) z.image,
      over_whole s.packet (replicate 32 0) z.packet,
      over_whole s.coefficients (replicate 24 0) z.coefficients,
    ) refl

-- a slice of one byte, stored
pub stored_alone : (bytes : List ℕ) (byte : ℕ) → length bytes ≡ 1 → set bytes 0 byte ≡ byte ∷ []
stored_alone [] byte e = absurd (omega arith)
stored_alone (a ∷ []) byte e = refl
stored_alone (a ∷ b ∷ bytes) byte e = absurd (omega arith)

-- a mark as its byte
pub byte_of : (waits : Bool) → bool_byte waits ≡ mark_byte waits
byte_of true = refl
byte_of false = refl

module _ (l : Lent) where
  -- the four lengths of the slices, and the three of their state
  pub lent_sized : is_lent l ≡ true → LentSized l
  lent_sized t =
      let u = both_right (eqb (length l.image) 256) _ t in
      let v = both_right (eqb (length l.packet) 32) _ u in
      record {
        image = eqb-true _ _ (both_left _ _ t);
        packet = eqb-true _ _ (both_left _ _ u);
        coefficients = eqb-true _ _ (both_left _ _ v);
        mark = eqb-true _ _ (both_right (eqb (length l.coefficients) 24) _ v);
      }

  pub state_sized : LentSized l → Sized (state_of l)
  state_sized z = record { image = z.image; packet = z.packet; coefficients = z.coefficients }

  pub is_lent_lem : LentSized l → is_lent l ≡ true
  is_lent_lem z = rw (eq-eqb _ _ z.image, eq-eqb _ _ z.packet, eq-eqb _ _ z.coefficients, eq-eqb _ _ z.mark)

  wrong_lent : Decides (not (is_lent l)) (WrongLent l)
  wrong_lent =
      one_fails (eqb (length l.image) 256) _ (opposite (equal _ 256))
      (one_fails (eqb (length l.packet) 32) _ (opposite (equal _ 32)) (unlike (length l.coefficients) (length l.mark) 24 1))

  decided : Decided (enter_tests l) (turn_rules l)
  decided = (refl, wrong_lent, λ _. tt)

  lengths_given : Given (turn_rules l) (lowest (enter_tests l))
  lengths_given = lowest_given (enter_tests l) (turn_rules l) refl decided

  -- what a call of these tests answers, by what it answers past them
  abbrev past : SliceAnswer → SliceAnswer
  past e = answer (lowest (enter_tests l)) (refused_entry l) e

  pub let_past : 0 ≡ lowest (enter_tests l) → is_lent l ≡ true
  let_past z = not-false (is_lent l) (none_at (enter_tests l) 0 (sym z))

  passed : (e : SliceAnswer) → is_lent l ≡ true → past e ≡ e
  passed e t = rw t

  kept : (e : SliceAnswer) → (e.refusal ≢ 0 → e.slices ≡ l) → (past e).refusal ≢ 0 → (past e).slices ≡ l
  kept e k = go (is_lent l)
    where
      go : (b : Bool) → let e : SliceAnswer = answer (lowest (image_length if not b ∷ [])) (refused_entry l) e in e.refusal ≢ 0 → e.slices ≡ l
      go true h = k h
      go false h = refl

  -- a write of the machine, in slices
  pub wrote_refused : (w : Wrote) → w.refusal ≢ 0 → wrote_in l w ≡ refused_entry l w.refusal
  wrote_refused w h = rw (ne_eqb _ _ h)

  pub wrote_taken : (w : Wrote) → w.refusal ≡ 0 → wrote_in l w ≡ taken_entry w.chip
  wrote_taken w h = rw (eq-eqb _ _ h)

  pub past_a_refusal : (s : Chip) (r : Result Chip Refusal) (e : Refusal) → r ≡ Err e → wrote_in l (wrote_told s r) ≡ refused_entry l (refusal_number e)
  past_a_refusal s r e h = rw h (wrote_refused _ (refusal_some e))

  pub past_a_write : (s : Chip) (r : Result Chip Refusal) (t : Chip) → r ≡ Ok t → wrote_in l (wrote_told s r) ≡ taken_entry t
  past_a_write s r t h = rw h refl

  -- and of a write to a state that is lent
  pub left_by_a_refusal : (left : Chip) (r : Result (Unit {0}) Refusal) (e : Refusal) → r ≡ Err e
      → wrote_in l (applied_told left r) ≡ refused_entry l (refusal_number e)
  left_by_a_refusal left r e h = rw h (wrote_refused _ (refusal_some e))

  pub left_by_a_write : (left : Chip) (r : Result (Unit {0}) Refusal) (u : Unit {0}) → r ≡ Ok u → wrote_in l (applied_told left r) ≡ taken_entry left
  left_by_a_write left r u h = rw h refl

  pub wrote_number : (w : Wrote) → (wrote_in l w).refusal ≡ w.refusal
  wrote_number w = numbered (refused_entry l) (taken_entry w.chip) (λ (e : SliceAnswer). e.refusal) w.refusal (λ _. refl) refl

  wrote_kept : (w : Wrote) → (wrote_in l w).refusal ≢ 0 → (wrote_in l w).slices ≡ l
  wrote_kept w h = rw (wrote_refused w (λ e. h (wrote_number w ∙ e)))

  -- a Vsync
  pub turn_away : (e : Refusal) → refusal_number e ≡ lowest (enter_tests l) → refused_entry l (refusal_number e) ≡ turn_of l
  unfolding turn_of
  turn_away = by_refusal (refused_entry l) (taken_entry (vsync_of (state_of l))) (lowest (enter_tests l))

  pub turn_in : is_lent l ≡ true → turn_of l ≡ taken_entry (vsync_of (state_of l))
  unfolding turn_of
  turn_in = passed (taken_entry (vsync_of (state_of l)))

  pub turn_refusals : VsyncRefusals l
  unfolding turn_of
  turn_refusals =
      let e : SliceAnswer = taken_entry (vsync_of (state_of l)) in
      record {
        given = rw (numbered (refused_entry l) e (λ (e : SliceAnswer). e.refusal) (lowest (enter_tests l)) (λ _. refl) refl) lengths_given;
        kept = kept e (λ h. absurd (h refl));
      }

  -- a write
  module _ (address value : ℕ) where
    abbrev wrote : Wrote
    wrote = write_of (state_of l) address value

    pub turned_away : (e : Refusal) → refusal_number e ≡ lowest (enter_tests l) → refused_entry l (refusal_number e) ≡ enter_of l address value
    unfolding enter_of
    turned_away = by_refusal (refused_entry l) (wrote_in l wrote) (lowest (enter_tests l))

    pub let_in : is_lent l ≡ true → enter_of l address value ≡ wrote_in l (write_of (state_of l) address value)
    unfolding enter_of
    let_in = passed (wrote_in l wrote)

    pub refusals : WriteRefusals l address value
    unfolding enter_of
    refusals = record {
      given =
          in_stages (refused_entry l) (wrote_in l wrote) (λ (e : SliceAnswer). e.refusal) (turn_rules l) (write_rules (state_of l) address value) (lowest (enter_tests l)) refl refl
          lengths_given (λ z. rw (wrote_number wrote) (stepped (state_of l) address value (lent_sized (let_past (sym z))).image).refusals);
      kept = kept (wrote_in l wrote) (wrote_kept wrote);
    }
