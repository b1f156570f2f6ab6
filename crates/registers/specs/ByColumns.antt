-- Document 01, "Register classes": the class table by its columns, as the code has it. `HasColumns`, the contract of
-- `registers::ByColumn::new`, ties them to the table.
use Rattle.std.specs.Prelude.{◌≡◌, List, map, ℕ}
use Rattle.registers.specs.declared.Class.{Class}
use Rattle.registers.specs.declared.ByColumn.{ByColumn}
use Rattle.registers.specs.Classes.{classes, class_at}

-- one field of each row
abbrev pub column_of : (Class → ℕ) → List ℕ
column_of f = map f classes

-- what `table_columns` promises: the table's columns, whole
pub record HasColumns (c : ByColumn) : Type 0 where
  pub read_only : c.read_only ≡ column_of (λ r. r.read_only)
  pub mandated : c.mandated ≡ column_of (λ r. r.mandated)
  pub free : c.free ≡ column_of (λ r. r.free)
  pub bits : c.bits ≡ column_of (λ r. r.bits)

-- what `class_at` promises
abbrev pub Classifies : ℕ → Class → Type 0
Classifies a c = c ≡ class_at a
