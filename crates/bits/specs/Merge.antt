-- The merge of two numbers by a mask, bit by bit; one bit of a number, and some.
use Rattle.std.specs.Prelude.{cond, ℕ, zero, suc, ◌+◌, ◌-◌, ◌*◌, ◌/◌, ◌%◌, ◌^◌, eqb}

-- the low k bits of two numbers, merged: a's where the mask m has a 1, b's elsewhere
unfoldable pub merge : ℕ → ℕ → ℕ → ℕ → ℕ
merge zero m a b = 0
merge (suc k) m a b = cond (eqb (m % 2) 1) (a % 2) (b % 2) + 2 * merge k (m / 2) (a / 2) (b / 2)

-- a byte's bits under a mask
abbrev pub under : ℕ → ℕ → ℕ
under mask byte = merge 8 mask byte 0

-- bit j of a number
abbrev pub bit : ℕ → ℕ → ℕ
bit zero n = n % 2
bit (suc j) n = bit j (n / 2)

-- the bits [high:low] of a byte, as a number
abbrev pub bits_in : ℕ → ℕ → ℕ → ℕ
bits_in high low byte = byte / 2 ^ low % 2 ^ (high + 1 - low)
