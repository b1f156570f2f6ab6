-- A list, each entry by its place. Assumes nothing.
use mathlib.Core.Path.{◌≡◌, refl, sym, ap, ◌∙◌}
use mathlib.Core.List.{List, [], ◌∷◌}
use Prim.Native.Nat.{ℕ, zero, suc}
use lib.ListN.{length, get_or}

-- so many bytes from the i-th on, each by its place
abbrev pub by_place : ℕ → ℕ → List ℕ → List ℕ
by_place i zero body = []
by_place i (suc count) body = get_or body i 0 ∷ by_place (suc i) count body

later : (i count b : ℕ) (body : List ℕ) → by_place (suc i) count (b ∷ body) ≡ by_place i count body
later i zero b body = refl
later i (suc count) b body = ap (λ (l : List ℕ). get_or body i 0 ∷ l) (later (suc i) count b body)

all : (body : List ℕ) → by_place 0 (length body) body ≡ body
all [] = refl
all (b ∷ body) = ap (λ (l : List ℕ). b ∷ l) (later 0 (length body) b body ∙ all body)

pub by_place_lem : (count : ℕ) (body : List ℕ) → length body ≡ count → by_place 0 count body ≡ body
by_place_lem count body h = ap (λ (n : ℕ). by_place 0 n body) (sym h) ∙ all body
