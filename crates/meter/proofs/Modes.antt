-- The modes in which all twelve numbers fit, by the tests that the code makes, and the smallest of them. Assumes nothing.
use mathlib.Core.Path.{◌≡◌, refl, sym, ap, ◌∙◌}
use mathlib.Core.Logic.{◌⊎◌, inl, inr}
use mathlib.Core.Bool.{Bool, true, false, cond, not, false≢true, ◌||◌}
use mathlib.Core.List.{List, [], ◌∷◌}
use Prim.Native.Nat.{ℕ, zero, suc, ◌+◌, ◌≤◌, ◌<◌}
use native.Mathlib.Nat.{not-suc-le-zero, le_of_suc-le-suc, add-zero, zero-add}
use native.Mathlib.Omega.{arith}
use lib.Dec.{lit≤, lit<}
use lib.ListN.{get_or, length}
use lib.Ieee.{Float, nan}
use lib.Ieee.Scale.{finite}
use borrow.Author.Tests.{ltb-true, not-true, not-false}
use Rattle.lists.specs.Find.{every}
use Rattle.lists.proofs.Decides.{Decides, opposite, either, restated, confirmed}
use Rattle.lists.proofs.Find.{every_at, at_every, one_failing}
use Rattle.meter.specs.Numbers.{number_of, is_offset, FitsIn}
use Rattle.meter.specs.Found.{field_in, fields_from, fields_in, is_field, fits_in, fits_none, smallest_mode}
use Rattle.meter.specs.Meter.{NotFinite}
use Rattle.meter.proofs.Fields.{suits}

-- ---- the fields, one by one
from_at : (mode j : ℕ) (l : List Float) (i : ℕ) → i < length l → get_or (fields_from mode j l) i 0 ≡ field_in mode (is_offset (j + i)) (number_of l i)
from_at mode j [] i h = absurd (not-suc-le-zero h)
from_at mode j (x ∷ l) zero h = ap (λ (k : ℕ). field_in mode (is_offset k) x) (sym (add-zero j))
from_at mode j (x ∷ l) (suc i) h =
    let e : suc j + i ≡ j + suc i = omega arith in
    from_at mode (suc j) l i (le_of_suc-le-suc h) ∙ ap (λ (k : ℕ). field_in mode (is_offset k) (number_of l i)) e

pub field_at : (mode : ℕ) (l : List Float) (i : ℕ) → i < length l → get_or (fields_in mode l) i 0 ≡ field_in mode (is_offset i) (number_of l i)
field_at mode l i h = from_at mode 0 l i h ∙ ap (λ (k : ℕ). field_in mode (is_offset k) (number_of l i)) (zero-add i)

from_length : (mode j : ℕ) (l : List Float) → length (fields_from mode j l) ≡ length l
from_length mode j [] = refl
from_length mode j (x ∷ l) = ap suc (from_length mode (suc j) l)

pub fields_length : (mode : ℕ) (l : List Float) → length (fields_in mode l) ≡ length l
fields_length mode l = from_length mode 0 l

-- one that is no field
pub unfit : (mode : ℕ) (l : List Float) (i : ℕ) → i < length l → is_field (field_in mode (is_offset i) (number_of l i)) ≡ false → fits_in mode l ≡ false
unfit mode l i h e = go (fits_in mode l) refl
  where
    go : (b : Bool) → fits_in mode l ≡ b → b ≡ false
    go true t = sym (every_at is_field (fields_in mode l) i 0 t (omega (arith, fields_length mode l))) ∙ ap is_field (field_at mode l i h) ∙ e
    go false t = refl

pub each_small : (cs : List ℕ) → every is_field cs ≡ true → (i : ℕ) → get_or cs i 0 < 8192
each_small cs t i = go cs i (λ j h. ltb-true _ _ (every_at is_field cs j 0 t h))
  where
    go : (cs : List ℕ) (i : ℕ) → ((j : ℕ) → j < length cs → get_or cs j 0 < 8192) → get_or cs i 0 < 8192
    go [] i f = lit< tt
    go (c ∷ cs) zero f = f 0 (omega arith)
    go (c ∷ cs) (suc i) f = go cs i (λ j h. f (suc j) (omega arith))

-- ---- all twelve
module _ (l : List Float) (twelve : length l ≡ 12) where
  pub not_finite : Decides (not (every finite l)) (NotFinite l)
  not_finite = record {
    passes = λ t.
        let f = one_failing finite l nan (not-true (every finite l) t) in
        record { place = f.place; within = rw twelve at f.within; not = f.fails };
    fails = λ t n.
        false≢true (sym n.not ∙ every_at finite l n.place nan (not-false (every finite l) t) (rw twelve n.within));
  }

  module _ (all : every finite l ≡ true) where
    pub is_finite : (i : ℕ) → i < 12 → finite (number_of l i) ≡ true
    is_finite i h = every_at finite l i nan all (rw twelve h)

    pub is_field_lem : (mode : ℕ) → fits_in mode l ≡ true → (i : ℕ) → i < 12 → is_field (field_in mode (is_offset i) (number_of l i)) ≡ true
    is_field_lem mode t i h =
        sym (ap is_field (field_at mode l i (rw twelve h))) ∙ every_at is_field (fields_in mode l) i 0 t (rw (fields_length mode l, twelve) h)

    pub fitting : (mode : ℕ) → Decides (fits_in mode l) (FitsIn l mode)
    fitting mode = record {
      passes = λ t. record {
        factors = λ i h. ((suits mode (is_offset i) (number_of l i) (is_finite i h)).passes (is_field_lem mode t i h)).factor;
        fields = λ i h. ((suits mode (is_offset i) (number_of l i) (is_finite i h)).passes (is_field_lem mode t i h)).rounded;
      };
      fails = λ f u. false≢true (sym f ∙ at_every is_field (fields_in mode l) 0 (λ i h. each u i (rw (fields_length mode l, twelve) at h)));
    }
      where
        each : FitsIn l mode → (i : ℕ) → i < 12 → is_field (get_or (fields_in mode l) i 0) ≡ true
        each u i h =
            ap is_field (field_at mode l i (rw twelve h))
            ∙ confirmed (suits mode (is_offset i) (number_of l i) (is_finite i h)) (record { factor = u.factors i h; rounded = u.fields i h })

    pub none_fits : Decides (fits_none l) ((mode : ℕ) → mode ≤ 2 → FitsIn l mode → ⊥)
    none_fits = restated to from (opposite (either (either (fitting 0) (fitting 1)) (fitting 2)))
      where
        to : ((FitsIn l 0 ⊎ FitsIn l 1) ⊎ FitsIn l 2 → ⊥) → (mode : ℕ) → mode ≤ 2 → FitsIn l mode → ⊥
        to n zero h u = n (inl (inl u))
        to n (suc zero) h u = n (inl (inr u))
        to n (suc (suc zero)) h u = n (inr u)
        to n (suc (suc (suc mode))) h u = absurd (not-suc-le-zero (le_of_suc-le-suc (le_of_suc-le-suc h)))

        from : ((mode : ℕ) → mode ≤ 2 → FitsIn l mode → ⊥) → (FitsIn l 0 ⊎ FitsIn l 1) ⊎ FitsIn l 2 → ⊥
        from f (inl (inl u)) = f 0 (lit≤ tt) u
        from f (inl (inr u)) = f 1 (lit≤ tt) u
        from f (inr u) = f 2 (lit≤ tt) u

-- ---- the smallest
module _ (l : List Float) where
  pub mode_small : smallest_mode l ≤ 2
  mode_small = go (fits_in 0 l) (fits_in 1 l)
    where
      go : (a b : Bool) → cond a 0 (cond b 1 2) ≤ 2
      go true b = lit≤ tt
      go false true = lit≤ tt
      go false false = lit≤ tt

  pub mode_fits : fits_none l ≡ false → fits_in (smallest_mode l) l ≡ true
  mode_fits = go (fits_in 0 l) (fits_in 1 l) refl refl
    where
      go : (a b : Bool) → fits_in 0 l ≡ a → fits_in 1 l ≡ b → not (a || b || fits_in 2 l) ≡ false → fits_in (cond a 0 (cond b 1 2)) l ≡ true
      go true b e f n = e
      go false true e f n = f
      go false false e f n = not-false (fits_in 2 l) n

  pub mode_least : (mode : ℕ) → mode < smallest_mode l → fits_in mode l ≡ false
  mode_least = go (fits_in 0 l) (fits_in 1 l) refl refl
    where
      go : (a b : Bool) → fits_in 0 l ≡ a → fits_in 1 l ≡ b → (mode : ℕ) → mode < cond a 0 (cond b 1 2) → fits_in mode l ≡ false
      go true b e f mode h = absurd (not-suc-le-zero h)
      go false true e f zero h = e
      go false true e f (suc mode) h = absurd (not-suc-le-zero (le_of_suc-le-suc h))
      go false false e f zero h = e
      go false false e f (suc zero) h = f
      go false false e f (suc (suc mode)) h = absurd (not-suc-le-zero (le_of_suc-le-suc (le_of_suc-le-suc h)))
