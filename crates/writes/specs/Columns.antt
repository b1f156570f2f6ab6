-- The columns of the code, three of the registers. No theorem speaks of them: `Lists` and `stands_whole`, the contracts of `write_list` and
-- `stands`, speak of `written` and `finished`, to which proofs/Columns ties them.
use Rattle.std.specs.Prelude.{cond, List, ℕ, get_or}
use Rattle.bits.specs.Merge.{merge}
use Rattle.registers.specs.Classes.{read_only, free, named, bits}
use Rattle.writes.specs.List.{decided, is_written}

-- of a register: the bits that a write keeps, those that are as wanted, and the others, where no step raises any
abbrev pub kept_bits : ℕ → ℕ
kept_bits a = cond (is_written a) (merge 8 (read_only a) (read_only a) (free a)) 255

abbrev pub wanted_bits : ℕ → ℕ
wanted_bits a = cond (is_written a) (merge 8 (decided a) 0 (named a)) 0

abbrev pub set_bits : ℕ → ℕ
set_bits a = cond (is_written a) (merge 8 (named a) 0 (bits a)) 0

-- what the code closes by: the bits that are kept or as wanted, and those that are kept or set
abbrev pub open_bits : ℕ → ℕ
open_bits a = merge 8 (kept_bits a) (kept_bits a) (wanted_bits a)

abbrev pub held_bits : ℕ → ℕ
held_bits a = merge 8 (kept_bits a) (kept_bits a) (set_bits a)

-- register a as the list leaves it, with the bits that steps decide down
unfoldable pub closed : (ℕ → ℕ) → List ℕ → ℕ → ℕ
closed want image a = merge 8 (kept_bits a) (get_or image a 0) (merge 8 (wanted_bits a) (want a) (set_bits a))
