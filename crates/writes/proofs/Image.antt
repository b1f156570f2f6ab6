-- A column of the registers: its entries, and a list with these entries; the finished image is one, and the test of an image looks for it.
-- Assumes nothing.
use mathlib.Core.Path.{◌≡◌, refl, sym, ap, ◌∙◌}
use mathlib.Core.Logic.{◌⊎◌, inl, inr}
use mathlib.Core.Bool.{Bool, true, false, false≢true}
use mathlib.Core.List.{List}
use Prim.Native.Nat.{ℕ, zero, suc, ◌+◌, ◌<◌}
use native.Mathlib.Nat.{add-zero, not-suc-le-zero, le_of_suc-le-suc, eq-or-lt_of_le}
use native.Mathlib.Omega.{arith}
use lib.ListN.{length, get_or, length-map}
use lib.Seq.{ext_get_or}
use Rattle.lists.specs.Same.{same_list}
use Rattle.lists.proofs.Compared.{same_decides}
use Rattle.lists.proofs.Decides.{Decides, equal, together, restated, refuted, confirmed}
use Rattle.lists.proofs.Emit.{map_at}
use Rattle.writes.specs.Steps.{from}
use Rattle.writes.specs.List.{finished, column, finished_image, stands_below}

pub length_from : (first count : ℕ) → length (from first count) ≡ count
length_from first zero = refl
length_from first (suc count) = ap suc (length_from (suc first) count)

pub from_at : (first count i : ℕ) → i < count → get_or (from first count) i 0 ≡ first + i
from_at first zero i h = absurd (not-suc-le-zero h)
from_at first (suc count) zero h = sym (add-zero first)
from_at first (suc count) (suc i) h = from_at (suc first) count i (le_of_suc-le-suc h) ∙ omega arith

module _ (f : ℕ → ℕ) where
  pub column_length : length (column f) ≡ 256
  unfolding column
  column_length = length-map (from 0 256) f ∙ length_from 0 256

  pub column_at : (a : ℕ) → a < 256 → get_or (column f) a 0 ≡ f a
  unfolding column
  column_at a h = map_at f (from 0 256) a 0 0 (rw (length_from 0 256) h) ∙ ap f (from_at 0 256 a h ∙ omega arith)

  -- a list with these entries is the column
  pub is_column : (l : List ℕ) → length l ≡ 256 → ((a : ℕ) → a < 256 → get_or l a 0 ≡ f a) → l ≡ column f
  is_column l e each = ext_get_or 0 l _ (e ∙ sym column_length) (λ a h. let k : a < 256 = rw e at h in each a k ∙ sym (column_at a k))

module _ (want : ℕ → ℕ) (image : List ℕ) where
  pub image_length_lem : length (finished_image want image) ≡ 256
  image_length_lem = column_length (finished want image)

  pub image_at : (a : ℕ) → a < 256 → get_or (finished_image want image) a 0 ≡ finished want image a
  image_at = column_at (finished want image)

  pub is_image : (l : List ℕ) → length l ≡ 256 → ((a : ℕ) → a < 256 → get_or l a 0 ≡ finished want image a) → l ≡ finished_image want image
  is_image = is_column (finished want image)

  -- the test of the registers below n
  pub stands_decides : (n : ℕ) → Decides (stands_below want image n) ((a : ℕ) → a < n → finished want image a ≡ get_or image a 0)
  unfolding stands_below
  stands_decides zero = record { passes = λ _ a h. absurd (not-suc-le-zero h); fails = λ f _. false≢true (sym f) }
  stands_decides (suc n) =
      restated (λ p a h. go a p (eq-or-lt_of_le (le_of_suc-le-suc h))) (λ f. (f n (omega arith), λ a h. f a (omega arith)))
      (together (equal (finished want image n) (get_or image n 0)) (stands_decides n))
    where
      go : (a : ℕ) → (finished want image n ≡ get_or image n 0) × ((a : ℕ) → a < n → finished want image a ≡ get_or image a 0)
          → (a ≡ n) ⊎ (a < n) → finished want image a ≡ get_or image a 0
      go a p (inl e) = rw e p.0
      go a p (inr l) = p.1 a l

  -- an image is compared with the finished one
  pub stands_same : (bytes : List ℕ) → length bytes ≡ 256 → ((a : ℕ) → a < 256 → get_or bytes a 0 ≡ finished want image a) → length image ≡ 256
      → same_list bytes image ≡ stands_below want image 256
  stands_same bytes l each whole = go (stands_below want image 256) refl
    where
      go : (b : Bool) → stands_below want image 256 ≡ b → same_list bytes image ≡ b
      go true t =
          confirmed (same_decides bytes image)
          (ext_get_or 0 bytes image (l ∙ sym whole) (λ a h. let k : a < 256 = rw l at h in each a k ∙ (stands_decides 256).passes t a k))
      go false f =
          refuted (same_decides bytes image)
          (λ e. (stands_decides 256).fails f (λ a h. sym (each a h) ∙ ap (λ (m : List ℕ). get_or m a 0) e))
