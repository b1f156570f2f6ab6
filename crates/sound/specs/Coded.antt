-- How the code reads a rate by its code. `RateTable` (Theorems) ties it to the table.
use Rattle.std.specs.Prelude.{cond, List, [], ◌∷◌, ℕ, suc, eqb}
use Rattle.sound.specs.Rates.{rates}

-- the place of a code in the table: the rate that it stands for; the table's length, 7, where it stands for none
abbrev pub rate_place : ℕ → List (ℕ × ℕ) → ℕ
rate_place code [] = 0
rate_place code (r ∷ rs) = cond (eqb r.1 code) 0 (suc (rate_place code rs))

unfoldable pub rate_of : ℕ → ℕ
rate_of code = rate_place code rates
