-- Document 01, "The request": "Lengths are therefore ..". `LengthsInNumbers` and `MarkedCases` (promises) have the numbers.
use Rattle.std.specs.Prelude.{◌≡◌, true, ℕ, suc, ◌+◌, ◌<◌, length, take}
use mathlib.Core.List.{List, [], ◌∷◌, map, flat_map}
use Rattle.lists.specs.Among.{among}
use Rattle.request.specs.Sections.{sections, walk, whole, longest}
use Rattle.request.specs.Read.{read_of, ncts_of}

-- the lengths that sections can have: of each its count, and a body of one of the counts that it allows
abbrev pub lengths_of : List (List ℕ) → List ℕ
lengths_of [] = 0 ∷ []
lengths_of (counts ∷ more) = flat_map (λ total. map (λ n. suc n + total) counts) (lengths_of more)

-- "Lengths are therefore .." (`MarkedCases`, promises, has the numbers)
abbrev pub lengths : List ℕ
lengths = lengths_of sections

-- "Lengths are therefore .." (`MarkedCases`, promises, has the numbers)
pub record Lengths (input : List ℕ) : Type 0 where
  pub accepted : (read_of input).refusal ≡ 0 → among (length input) lengths ≡ true
  -- as over any sections with no byte after them
  pub walked : (table bodies : List (List ℕ)) → walk table input ≡ whole bodies [] → among (length input) (lengths_of table) ≡ true
  -- so one byte more than the longest decides: cut there, or later, an input is answered as it is whole
  pub read : (n : ℕ) → longest < n → read_of (take n input) ≡ read_of input
  pub ncts : (n : ℕ) → longest < n → ncts_of (take n input) ≡ ncts_of input
