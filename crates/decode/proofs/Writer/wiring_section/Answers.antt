-- `decode::Writer::wiring_section` meets its contract. Assumes nothing.
use mathlib.Core.Path.{◌≡◌}
use Prim.Native.Nat.{ℕ, ◌/◌, ◌%◌, ◌<◌}
use native.Mathlib.Omega.{arith}
use borrow.Author.Rules.{rules}
use Rattle.decode.proofs.Writer.wiring_section.Goals as goal

-- a number of 16 bits has its high byte
high : (n : ℕ) → n < 65536 → n / 256 % 256 ≡ n / 256
high n h = omega arith

pub returns-in-Twelve : goal.returns-in-Twelve
returns-in-Twelve c = let t = c.in-Twelve in
    rw t.is (rw (
      c.to_be_bytes.ensures,
      c.to_be_bytes-in-Twelve.ensures,
      c.to_be_bytes-in-Twelve-2.ensures,
      c.to_be_bytes-in-Twelve-3.ensures,
      high t.hplacement (search rules),
      high t.hduration (search rules),
      high t.vplacement (search rules),
      high t.vduration (search rules),
    ) at c.section-in-Twelve.ensures)
