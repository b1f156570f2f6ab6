-- Document 01, "Matrix": "Coefficients are 13-bit two's complement"; "The request": two bytes, high byte first, from -4096 to 4095.
use Rattle.std.specs.Prelude.{cond, List, [], ◌∷◌, ℕ, suc, ◌+◌, ◌-◌, ◌*◌, ◌/◌, ◌%◌, ◌^◌, ltb, ℤ, pos, negsuc, ◌≤ℤ◌}
use Rattle.std.proofs.Math.IntN.{sub_ℕ}

-- the number that k + 1 bits stand for in two's complement
abbrev pub signed : ℕ → ℕ → ℤ
signed k bits = cond (ltb bits (2 ^ k)) (pos bits) (sub_ℕ bits (2 ^ suc k))

-- a field of 13 bits as a number
abbrev pub value_of : ℕ → ℤ
value_of field = signed 12 field

-- two bytes of a request, high byte first, as 16 bits; and their field
abbrev pub word : ℕ → ℕ → ℕ
word high low = high * 256 + low

abbrev pub low_thirteen : ℕ → ℕ
low_thirteen w = w % 8192

-- a coefficient as the request has it: two bytes, high byte first, of its 13 bits carried to 16
abbrev pub high_byte : ℕ → ℕ
high_byte field = cond (ltb field 4096) (field / 256) (field / 256 + 224)

abbrev pub coefficient_bytes : List ℕ → List ℕ
coefficient_bytes [] = []
coefficient_bytes (c ∷ cs) = high_byte c ∷ c % 256 ∷ coefficient_bytes cs

-- the numbers of k + 1 bits
pub record Spans (k : ℕ) (z : ℤ) : Type 0 where
  pub low : negsuc (2 ^ k - 1) ≤ℤ z
  pub high : z ≤ℤ pos (2 ^ k - 1)
