-- Two lists that hold the same numbers are equal, and equal lists do; and a loop that compares them.
--     same_decides    the test decides equality
--     unequal         lists of two lengths
--     Compared        at a place: the answer is what the places passed say, and what comes from there on
-- Assumes nothing.
use mathlib.Core.Path.{◌≡◌, refl, sym, ap}
use mathlib.Core.Bool.{Bool, false, false≢true, ◌&&◌}
use mathlib.Core.List.{List, [], ◌∷◌}
use Prim.Native.Nat.{ℕ}
use native.Mathlib.Omega.{arith}
use lib.ListN.{length, drop}
use Rattle.lists.specs.Same.{same_list}
use Rattle.lists.proofs.Decides.{Decides, equal, together, restated, refuted}

pub same_decides : (a b : List ℕ) → Decides (same_list a b) (a ≡ b)
same_decides [] [] = record { passes = λ _. refl; fails = λ f _. false≢true (sym f) }
same_decides [] (y ∷ ys) = record { passes = λ t. absurd (false≢true t); fails = λ _ e. omega (arith, ap length e) }
same_decides (x ∷ xs) [] = record { passes = λ t. absurd (false≢true t); fails = λ _ e. omega (arith, ap length e) }
same_decides (x ∷ xs) (y ∷ ys) = restated (λ p. cc (p.0, p.1)) (λ e. ((cc), (cc))) (together (equal x y) (same_decides xs ys))

pub unequal : (a b : List ℕ) → (length a ≡ length b → ⊥) → same_list a b ≡ false
unequal a b n = refuted (same_decides a b) (λ e. n (ap length e))

abbrev pub Compared : List ℕ → List ℕ → ℕ → Bool → Type 0
Compared a b i all = same_list a b ≡ (all && same_list (drop i a) (drop i b))
