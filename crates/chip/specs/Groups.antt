-- The groups of the machine as the code has them: `group_of` gives the definition's group of each, and `covers` says which registers are one's.
use Rattle.std.specs.Prelude.{Bool, ◌&&◌, ℕ, ◌+◌, leb, ltb}
use Rattle.chip.specs.declared.group.Group as code
use Rattle.chip.specs.Machine.{Group}

abbrev pub group_of : code.Group → Group
group_of r = record { hold = r.hold; first = r.first; count = r.count }

-- one of the count registers from `first` on; and so a register of a group
abbrev pub in_run : ℕ → ℕ → ℕ → Bool
in_run first count a = leb first a && ltb a (first + count)

abbrev pub covers : Group → ℕ → Bool
covers g = in_run g.first g.count
