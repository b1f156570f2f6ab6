-- Document 02, request 07: "the whole number nearest to .., the even one on a tie", "stated over whole numbers".
use Rattle.std.specs.Prelude.{◌≡◌, ℕ, ◌*◌, ◌%◌, ◌≤◌, ℤ, pos, nat_abs, ◌*ℤ◌, ◌-ℤ◌}

-- n is the whole number nearest to a / b: 2·|n·b - a| ≤ b, "the half-unit distance"; and n is even where that is an equation, "on a tie"
pub record Nearest (a : ℤ) (b : ℕ) (n : ℤ) : Type 0 where
  pub within : 2 * nat_abs (n *ℤ pos b -ℤ a) ≤ b
  pub even : 2 * nat_abs (n *ℤ pos b -ℤ a) ≡ b → nat_abs n % 2 ≡ 0

-- "the": there is one, and no other
pub record Rounds (a : ℤ) (b : ℕ) : Type 0 where
  pub nearest : ℤ
  pub is : Nearest a b nearest
  pub only : (n : ℤ) → Nearest a b n → n ≡ nearest
