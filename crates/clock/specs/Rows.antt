-- The rows in which the code looks a recommended pair up; `PairRule` (Theorems) speaks of what is found.
use Rattle.std.specs.Prelude.{Bool, ◌&&◌, eqb}
use Rattle.clock.specs.declared.Hertz.{Hertz}
use Rattle.clock.specs.declared.Row.{Row}

-- a row is a clock's, both in lowest terms
abbrev pub is_of : Hertz → Row → Bool
is_of clock row = eqb clock.num row.clock.num && eqb clock.den row.clock.den
