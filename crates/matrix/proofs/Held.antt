-- A matrix in hand that is in range is none, or one that a request may have, and back. Assumes nothing.
use mathlib.Core.Path.{◌≡◌, refl}
use mathlib.Core.Logic.{◌⊎◌, inl, inr, ⊎_elim}
use mathlib.Core.Bool.{Bool, true, false, ◌&&◌, ◌||◌, and-true}
use mathlib.Core.List.{List}
use Prim.Native.Nat.{ℕ, zero, suc, ◌<◌, ◌≤◌}
use native.Mathlib.Nat.{eq-or-lt_of_le, le_of_suc-le-suc, not-suc-le-zero}
use native.Mathlib.Omega.{arith}
use lib.Dec.{eqb, leb, ltb, lit<}
use lib.ListN.{length, get_or, get_or-eq_default}
use borrow.Author.Tests.{eqb-true, leb-true, ltb-true, ltb-false, lt-ltb}
use Rattle.lists.specs.Same.{same_list}
use Rattle.lists.proofs.Both.{both_left, both_right}
use Rattle.lists.proofs.Compared.{same_decides}
use Rattle.matrix.specs.declared.Matrix.{Matrix}
use Rattle.matrix.specs.Matrix.{no_matrix}
use Rattle.matrix.specs.Tests.{small_fields, matrix_in_range}
use Rattle.matrix.specs.Body.{Whole}

-- the test of the fields, and of each of them
each_small : (k : List ℕ) (n : ℕ) → small_fields k n ≡ true → (i : ℕ) → i < n → get_or k i 0 < 8192
each_small k zero t i h = absurd (not-suc-le-zero h)
each_small k (suc n) t i h =
    ⊎_elim (λ e. rw e (ltb-true _ _ (both_right (small_fields k n) _ t))) (each_small k n (both_left _ (ltb (get_or k n 0) 8192) t) i)
    (eq-or-lt_of_le (le_of_suc-le-suc h))

all_small : (k : List ℕ) → ((i : ℕ) → get_or k i 0 < 8192) → (n : ℕ) → small_fields k n ≡ true
all_small k h zero = refl
all_small k h (suc n) = rw (all_small k h n, lt-ltb (get_or k n 0) 8192 (h n))

module _ (m : Matrix) (twelve : length m.coefficients ≡ 12) where
  each : small_fields m.coefficients 12 ≡ true → (i : ℕ) → get_or m.coefficients i 0 < 8192
  each t i = go (ltb i 12) refl
    where
      go : (b : Bool) → ltb i 12 ≡ b → get_or m.coefficients i 0 < 8192
      go true e = each_small m.coefficients 12 t i (ltb-true i 12 e)
      go false e = let h : length m.coefficients ≤ i = omega (arith, ltb-false i 12 e) in rw (get_or-eq_default m.coefficients 0 h) (lit< tt)

  pub held : matrix_in_range m ≡ true → (m ≡ no_matrix) ⊎ Whole m
  unfolding matrix_in_range
  held t = go (eqb m.on 0 && eqb m.mode 1 && same) refl t
    where
      same : Bool
      same = same_list m.coefficients no_matrix.coefficients

      small : Bool
      small = small_fields m.coefficients 12

      go : (b : Bool) → (eqb m.on 0 && eqb m.mode 1 && same) ≡ b → (b || (eqb m.on 1 && leb m.mode 2 && small)) ≡ true
          → (m ≡ no_matrix) ⊎ Whole m
      go true e t =
          let first : (eqb m.on 0 && eqb m.mode 1) ≡ true = both_left _ same e in
          let on : m.on ≡ 0 = eqb-true _ _ (both_left _ (eqb m.mode 1) first) in
          let mode : m.mode ≡ 1 = eqb-true _ _ (both_right (eqb m.on 0) _ first) in
          let k = (same_decides m.coefficients no_matrix.coefficients).passes (both_right (eqb m.on 0 && eqb m.mode 1) _ e) in
          inl (λ i. record { on = on i; mode = mode i; coefficients = k i })
      go false e t =
          let first : (eqb m.on 1 && leb m.mode 2) ≡ true = both_left _ small t in
          inr (record {
            on = eqb-true _ _ (both_left _ (leb m.mode 2) first);
            mode = leb-true _ _ (both_right (eqb m.on 1) _ first);
            twelve = twelve;
            each = each (both_right (eqb m.on 1 && leb m.mode 2) _ t);
          })

-- fields of 13 bits are in range where their mode is
pub by_mode : (m : Matrix) → m.on ≡ 1 → ((i : ℕ) → get_or m.coefficients i 0 < 8192) → matrix_in_range m ≡ leb m.mode 2
unfolding matrix_in_range
by_mode m on each = rw (on, all_small m.coefficients each 12) (and-true (leb m.mode 2))
