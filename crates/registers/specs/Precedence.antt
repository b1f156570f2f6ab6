-- Document 01, "Register classes": how the table is filled. "A bit typed read-only is read-only. Of the rest, Table 14's bits are mandated;
-- then the fields listed below are named; then bits the map marks fixed or must-be-set are mandated; all others are free."
-- Before these, document 02: fields that "become named" (request 06) are named, though the map types them read-only; so are those that
-- request 02 adds, of which the map types none so.
use Rattle.std.specs.Prelude.{List, ◌++◌, ℕ, ◌+◌, ◌-◌}
use Rattle.std.specs.Int.Bits.{bit_and}
use Rattle.registers.specs.declared.Class.{Class}
use Rattle.registers.specs.Field.{Field, fields_at, masks, values}
use Rattle.registers.specs.Fields.{become_named, named_fields}
use Rattle.registers.specs.Rows.{read_only_fields, table14_bits, fixed_fields}

-- the bits of x that lie in none of the fields
abbrev pub except : List Field → ℕ → ℕ
except fields x = x - bit_and x (masks fields)

-- a register's class from its fields in the five lists: become named, typed read-only, of Table 14, named, marked fixed or must-be-set.
-- The bits of each are its fields' except those of an earlier list.
abbrev pub fill : List Field → List Field → List Field → List Field → List Field → Class
fill become typed tabled listed marked = record {
  read_only = except become (masks typed);
  mandated = except (become ++ typed) (masks tabled) + except (become ++ typed ++ tabled ++ listed) (masks marked);
  named = masks become + except (become ++ typed ++ tabled) (masks listed);
  free = except (become ++ typed ++ tabled ++ listed ++ marked) 0xFF;
  bits = except (become ++ typed) (values tabled) + except (become ++ typed ++ tabled ++ listed) (values marked);
}

abbrev pub by_precedence : ℕ → Class
by_precedence a =
    fill (fields_at a become_named) (fields_at a read_only_fields) (fields_at a table14_bits) (fields_at a named_fields) (fields_at a fixed_fields)
