-- A list of twelve, entry by entry. Assumes nothing.
use mathlib.Core.Path.{◌≡◌, refl, sym, ap, ◌∙◌}
use mathlib.Core.List.{List, [], ◌∷◌}
use Prim.Native.Nat.{ℕ, zero, suc}
use lib.ListN.{length, get_or}
use lib.Ieee.{Float, nan}

-- n entries, from number i on
abbrev pub entries : List Float → ℕ → ℕ → List Float
entries l i zero = []
entries l i (suc n) = get_or l i nan ∷ entries l (suc i) n

shift : (x : Float) (l : List Float) (i n : ℕ) → entries (x ∷ l) (suc i) n ≡ entries l i n
shift x l i zero = refl
shift x l i (suc n) = ap (λ (m : List Float). get_or l i nan ∷ m) (shift x l (suc i) n)

all : (l : List Float) → entries l 0 (length l) ≡ l
all [] = refl
all (x ∷ l) = ap (λ (m : List Float). x ∷ m) (shift x l 0 (length l) ∙ all l)

pub twelve : (l : List Float) → length l ≡ 12 → entries l 0 12 ≡ l
twelve l h = ap (entries l 0) (sym h) ∙ all l
