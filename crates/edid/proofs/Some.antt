-- What a search over a slice finds, as the definitions say it: a VIC among those of a block, and the first wish that passes a test. Assumes nothing.
use mathlib.Core.Path.{◌≡◌, refl, ap}
use mathlib.Core.Bool.{Bool, cond}
use mathlib.Core.List.{List, [], ◌∷◌, map}
use Prim.Native.Nat.{ℕ, suc, ◌/◌, ◌%◌, ◌≤◌}
use native.Mathlib.Omega.{arith}
use Rattle.std.proofs.lemmas.Bool.Decides.{nat_tests}
use lib.Dec.{eqb, ltb}
use lib.ListN.{length}
use Rattle.std.specs.Prelude.{Option, Some, None}
use Rattle.std.specs.List.{list_any, position_or_len}
use Rattle.std.specs.Simd.{first_chunks}
use Rattle.lists.specs.Among.{among}
use Rattle.bits.specs.Merge.{bits_in}
use Rattle.edid.specs.Wish.{Wish, wishes_in}
use Rattle.edid.specs.Found.{first_at}
use Rattle.edid.specs.Code.{wish_of, first_in}
use Rattle.edid.proofs.Cut.{low}

pub vic_among : (vic : ℕ) (l : List ℕ) → list_any (λ byte. eqb vic (byte % 128)) l ≡ among vic (map (bits_in 6 0) l)
vic_among vic [] = refl
vic_among vic (byte ∷ l) = rw (low 128 byte, vic_among vic l)

-- the first place is none past the end
pub no_more : {A : Type 0} (f : A → Bool) (l : List A) → first_at f l ≤ length l
no_more f [] = omega arith
no_more f (x ∷ l) = grind (arith, no_more f l)

module _ (test : Wish → Bool) where
  abbrev pub passes : List ℕ → Bool
  passes bytes = test (wish_of bytes)

  abbrev pairs : List ℕ → List (List ℕ)
  pairs wishes = first_chunks 2 (length wishes / 2) wishes

  half : (l : List ℕ) → suc (suc (length l)) / 2 ≡ suc (length l / 2)
  half l = omega arith

  first_pair : (wishes : List ℕ) → position_or_len passes (pairs wishes) ≡ first_at test (wishes_in wishes)
  first_pair [] = refl
  first_pair (a ∷ []) = refl
  first_pair (a ∷ b ∷ l) = rw (half l) (grind (arith, first_pair l))

  as_many : (wishes : List ℕ) → length (pairs wishes) ≡ length (wishes_in wishes)
  as_many [] = refl
  as_many (a ∷ []) = refl
  as_many (a ∷ b ∷ l) = rw (half l) (ap suc (as_many l))

  either_way : (a n : ℕ) → a ≤ n → ◌≡◌ {A = Option ℕ} (cond (ltb a n) (Some a) None) (cond (eqb a n) None (Some a))
  either_way a n h = grind (arith, nat_tests)

  pub first_found : (wishes : List ℕ)
      → ◌≡◌ {A = Option ℕ} (cond (ltb (position_or_len passes (pairs wishes)) (length (pairs wishes))) (Some (position_or_len passes (pairs wishes))) None) (first_in test (wishes_in wishes))
  first_found wishes = rw (first_pair wishes, as_many wishes) (either_way (first_at test (wishes_in wishes)) (length (wishes_in wishes)) (no_more test (wishes_in wishes)))
