-- A is_allowed body is in range, number by number, and its fields stand for its numbers.
-- Assumes nothing.
use mathlib.Core.Path.{◌≡◌, refl, sym, ap, ◌∙◌}
use mathlib.Core.Bool.{true}
use mathlib.Core.List.{List}
use Prim.Native.Nat.{ℕ, zero, suc, ◌+◌, ◌*◌, ◌<◌}
use native.Mathlib.Numerals.{add-one}
use native.Mathlib.Omega.{arith}
use lib.ListN.{length, get_or, drop}
use borrow.Author.Tests.{eq-eqb, le-leb}
use Rattle.lists.proofs.Both.{both_left, both_right}
use Rattle.matrix.specs.Coefficient.{low_thirteen, value_of}
use Rattle.matrix.specs.Tests.{within, Sent}
use Rattle.matrix.specs.Matrix.{fields, word_at, Bytes}
use Rattle.matrix.specs.Numbers.{Numbers}
use Rattle.matrix.specs.Tests.{in_range, is_allowed}
use Rattle.matrix.proofs.Pairs.{rest, range_more, range_end, fields_more, sized, mode_small, ranged}
use Rattle.matrix.proofs.Signs.{sent}

module _ (body : List ℕ) (l : length body ≡ 25) where
  -- a test of the whole is a test of each
  rest_passes : (i : ℕ) → i < 13 → in_range (drop 1 body) ≡ true → in_range (rest body i) ≡ true
  rest_passes zero h e = e
  rest_passes (suc i) h e =
      rw (← add-one i) (both_right (within (word_at body i)) _ (sym (range_more body i (omega arith)) ∙ rest_passes i (omega arith) e))

  each_passes : (i : ℕ) → i < 12 → in_range (drop 1 body) ≡ true → within (word_at body i) ≡ true
  each_passes i h e = both_left _ (in_range (rest body (i + 1))) (sym (range_more body i (omega arith)) ∙ rest_passes i (omega arith) e)

  all_pass : (n i : ℕ) → i + n ≡ 12 → ((j : ℕ) → j < 12 → within (word_at body j) ≡ true) → in_range (rest body i) ≡ true
  all_pass zero i h e = range_end body i (omega arith)
  all_pass (suc n) i h e = range_more body i (omega arith) ∙ rw (e i (omega arith)) (all_pass n (i + 1) (omega arith) e)

  -- field i of what is left from j on
  field_at : (i j : ℕ) → i + j < 12 → get_or (fields (rest body j)) i 0 ≡ low_thirteen (word_at body (i + j))
  field_at zero j h = rw (fields_more body j (omega arith)) (ap (λ (n : ℕ). low_thirteen (word_at body n)) (omega arith))
  field_at (suc i) j h =
      rw (fields_more body j (omega arith)) (field_at i (j + 1) (omega arith) ∙ ap (λ (n : ℕ). low_thirteen (word_at body n)) (omega arith))

module _ (body : List ℕ) (bytes : Bytes body) where
  said : (i : ℕ) → Sent (word_at body i)
  said i = sent (word_at body i) (omega (arith, bytes (2 * i + 1), bytes (2 * i + 2)))

  pub numbers : Numbers body
  unfolding is_allowed
  numbers = record {
    rule = (
      (λ s. let n = sized body s in record { sized = n; mode = mode_small body s; each = λ i h. (said i).range.0 (each_passes body n i h (ranged body s)) }),
      λ r. let p : in_range (drop 1 body) ≡ true = all_pass body r.sized 12 0 refl (λ j h. (said j).range.1 (r.each j h)) in
          simp (eq-eqb _ _ r.sized, le-leb _ _ r.mode, p),
    );
    values = λ s i h. let n = sized body s in
        ap value_of (field_at body n i 0 (omega arith) ∙ ap (λ (m : ℕ). low_thirteen (word_at body m)) (omega arith))
        ∙ (said i).same (each_passes body n i h (ranged body s));
  }
