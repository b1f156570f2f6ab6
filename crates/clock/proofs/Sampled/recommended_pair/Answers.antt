-- `clock::Sampled::recommended_pair` meets its contract: the code's rows are the definition's. Assumes nothing.
use mathlib.Core.Path.{◌≡◌}
use mathlib.Core.List.{map}
use Rattle.std.specs.Prelude.{option_map, find, unwrap_or}
use Rattle.ratio.specs.Terms.{divisor_of, euclid}
use Rattle.clock.specs.Numbered.{clock_known}
use Rattle.clock.specs.Pairs.{recommended_of}
use Rattle.clock.specs.Rows.{is_of}
use Rattle.clock.specs.Tables.{recommended, pair}
use Rattle.clock.proofs.Columns.{in_terms, pair_in, the_recommended}
use Rattle.clock.proofs.Sampled.recommended_pair.Goals as goal
use Rattle.clock.proofs.Sampled.recommended_pair.Goals.{After-row_of}

looked_up : (c : After-row_of) → option_map (λ row. row.now) c.row_of.result ≡ find (is_of c.args.self.clock) (map in_terms recommended)
unfolding divisor_of euclid
looked_up c = c.row_of.ensures

given : (c : After-row_of)
    → let s = c.args.self in
    unwrap_or (option_map (pair_in s.rate) (option_map (λ row. row.now) c.row_of.result)) (pair 0 0) ≡ recommended_of (clock_known s.clock) s.rate
given c = let s = c.args.self in rw (looked_up c) (the_recommended s.clock s.within_bounds.lowest s.rate)

pub returns-in_err-row : goal.returns-in_err-row
returns-in_err-row c = rw c.from_residual.ensures (rw c.in_err-row.was at (given (goal.at.returns-in_err-row c).After-row_of))

pub returns : goal.returns
returns c = rw c.from-rate.ensures (rw c.in_ok-row.was at (given (goal.at.returns c).After-row_of))
