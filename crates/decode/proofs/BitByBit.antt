-- A request stands in an image exactly when each bit that counts is as its list leaves it. Assumes nothing.
use mathlib.Core.Path.{◌≡◌, refl, sym, ap, ◌∙◌}
use mathlib.Core.Logic.{◌≢◌, ◌⊎◌, ⊎_elim, inl, inr}
use mathlib.Core.Bool.{Bool, true, false, cond}
use mathlib.Core.List.{List}
use Prim.Native.Nat.{ℕ, ◌+◌, ◌<◌}
use native.Mathlib.Omega.{arith}
use lib.Dec.{eqb}
use lib.ListN.{get_or}
use borrow.Author.Tests.{eqb-true, eqb-false, eq-eqb, ne_eqb}
use Rattle.bits.specs.Merge.{bit}
use Rattle.bits.proofs.Laws.{merge_bit}
use Rattle.registers.specs.Classes.{read_only, mandated, named, free, bits}
use Rattle.registers.proofs.Whole.{rule}
use Rattle.matrix.specs.Matrix.{Bytes}
use Rattle.request.specs.declared.Request.{Request}
use Rattle.plan.specs.Wanted.{wanted}
use Rattle.writes.specs.List.{byte, is_written, finished}
use Rattle.decode.specs.Ends.{Stands}
use Rattle.decode.specs.Theorems.{Counts, AsLeft, BitByBit}
use Rattle.writes.proofs.Fewer.{same_byte}
use Rattle.writes.proofs.InOrder.{is_listed}
use Rattle.writes.proofs.Named.{byte_small, left}

-- ---- one bit of a register: it counts, or it is free or read-only

abbrev Kept : ℕ → ℕ → Type 0
Kept a j = (bit j (read_only a) ≡ 1) ⊎ (bit j (free a) ≡ 1)

module _ (a j : ℕ) (h : a < 256) (l : j < 8) where
  one : bit j (read_only a) + bit j (mandated a) + bit j (named a) + bit j (free a) ≡ 1
  one = (rule a h).one j l

  -- a bit of a written byte, by its class
  byte_bit : (old w : ℕ) → bit j (byte a old w)
      ≡ cond (eqb (bit j (read_only a)) 1) (bit j old) (cond (eqb (bit j (free a)) 1) (bit j old) (cond (eqb (bit j (named a)) 1) (bit j w) (bit j (bits a))))
  unfolding byte
  byte_bit old w = rw (merge_bit 8 j (read_only a) old _ l, merge_bit 8 j (free a) old _ l, merge_bit 8 j (named a) w (bits a) l)

  unkept : Counts a j → (bit j (read_only a) ≢ 1) × (bit j (free a) ≢ 1)
  unkept (inl n) = ((λ e. omega (arith, one)), λ e. omega (arith, one))
  unkept (inr m) = ((λ e. omega (arith, one)), λ e. omega (arith, one))

  counted : Counts a j → (old before w : ℕ) → bit j (byte a old w) ≡ bit j (byte a before w)
  counted c old before w = rw (byte_bit old w, byte_bit before w, ne_eqb _ 1 (unkept c).0, ne_eqb _ 1 (unkept c).1)

  kept : Kept a j → (old w : ℕ) → bit j (byte a old w) ≡ bit j old
  kept (inl r) old w = rw (byte_bit old w, eq-eqb _ 1 r)
  kept (inr f) old w = rw (byte_bit old w, ne_eqb (bit j (read_only a)) 1 (λ e. omega (arith, one)), eq-eqb _ 1 f)

  either : Counts a j ⊎ Kept a j
  either = go (eqb (bit j (named a)) 1) refl (eqb (bit j (mandated a)) 1) refl (eqb (bit j (read_only a)) 1) refl
    where
      go : (n : Bool) → eqb (bit j (named a)) 1 ≡ n → (m : Bool) → eqb (bit j (mandated a)) 1 ≡ m → (r : Bool) → eqb (bit j (read_only a)) 1 ≡ r → Counts a j ⊎ Kept a j
      go true n m f r g = inl (inl (eqb-true _ 1 n))
      go false n true m r g = inl (inr (eqb-true _ 1 m))
      go false n false m true r = inr (inl (eqb-true _ 1 r))
      go false n false m false r =
          let x : bit j (named a) ≡ 1 → ⊥ = eqb-false _ 1 n in
          let y : bit j (mandated a) ≡ 1 → ⊥ = eqb-false _ 1 m in
          let z : bit j (read_only a) ≡ 1 → ⊥ = eqb-false _ 1 r in
          inr (inr (omega (arith, one)))

-- ---- a register that the list writes

module _ (want : ℕ → ℕ) (a : ℕ) (h : a < 256) (w : is_written a ≡ true) where
  -- a bit that counts is left the same on any two images
  same : (image before : List ℕ) (j : ℕ) → j < 8 → Counts a j → bit j (finished want image a) ≡ bit j (finished want before a)
  same image before j l c = rw (left want image a w, left want before a w) (counted a j h l c (get_or image a 0) (get_or before a 0) _)

  stay : (image : List ℕ) (j : ℕ) → j < 8 → Kept a j → bit j (finished want image a) ≡ bit j (get_or image a 0)
  stay image j l k = rw (left want image a w) (kept a j h l k (get_or image a 0) _)

  small : (image : List ℕ) → finished want image a < 256
  small image = rw (left want image a w) (byte_small a _ _)

module _ (r : Request) (before image : List ℕ) where
  from : Bytes image → AsLeft r before image → Stands r image
  unfolding finished
  from b s a h = go (is_written a) refl
    where
      go : (t : Bool) → is_written a ≡ t → finished (wanted r) image a ≡ get_or image a 0
      go false w = rw w
      go true w =
          same_byte (finished (wanted r) image a) (get_or image a 0) (small (wanted r) a h w image) (b a)
          (λ j l. ⊎_elim (λ c. same (wanted r) a h w image before j l c ∙ sym (s a j h l (is_listed (wanted r) before a h ∙ w) c)) (λ k. stay (wanted r) a h w image j l k) (either a j h l))

  to : Stands r image → AsLeft r before image
  to s a j h l w c =
      ap (λ (n : ℕ). bit j n) (sym (s a h))
      ∙ same (wanted r) a h (sym (is_listed (wanted r) before a h) ∙ w) image before j l c

  pub bit_by_bit : BitByBit r before image
  bit_by_bit b = (to, from b)
