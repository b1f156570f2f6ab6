-- Document 01, "Matrix": two's complement, there and back, at every width.
use Rattle.std.specs.Prelude.{◌≡◌, ℕ, suc, ◌-◌, ◌%◌, ◌<◌, ◌^◌, ℤ, pos, negsuc}
use Rattle.matrix.specs.Coefficient.{signed, Spans}

abbrev pub bits_of : ℕ → ℤ → ℕ
bits_of k (pos n) = n % 2 ^ suc k
bits_of k (negsuc n) = 2 ^ suc k - suc (n % 2 ^ suc k)

-- there and back, at every width
pub record TwosComplement (k : ℕ) : Type 0 where
  pub range : (bits : ℕ) → bits < 2 ^ suc k → Spans k (signed k bits)
  pub back : (bits : ℕ) → bits < 2 ^ suc k → bits_of k (signed k bits) ≡ bits
  pub again : (z : ℤ) → Spans k z → signed k (bits_of k z) ≡ z
