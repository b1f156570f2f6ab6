-- Table 14 of source document 000, "Fixed Registers That Must Be Set". Document 01, "Register classes": "Table 14's bits are mandated".
-- `registers::table14` says so of the class table.
use Rattle.std.specs.Prelude.{◌≡◌, Bool, true, ◌&&◌, eqb}
use Rattle.lists.specs.Find.{every}
use Rattle.bits.specs.Merge.{under}
use Rattle.registers.specs.Classes.{mandated, bits}
use Rattle.registers.specs.Field.{Field}
use Rattle.registers.specs.Rows.{table14_bits}

-- a row's bits are all mandated, and the mandated bits there are the row's value
abbrev pub in_table : Field → Bool
in_table f = eqb (under f.mask (mandated f.address)) f.mask && eqb (under f.mask (bits f.address)) f.value

pub record Table14 : Type 0 where
  pub rows : every in_table table14_bits ≡ true
