-- `request::Found::body` meets its contract: the part of the input after the count of section k. Assumes nothing.
-- the section
use native.Mathlib.Omega.{arith}
use native.Mathlib.Numerals.{add-one}
use Rattle.request.proofs.Opened.{There, there}
use Rattle.request.proofs.Found.body.Goals as goal
use Rattle.request.proofs.Found.body.Goals.{After-count_at-count}

found : (c : After-count_at-count) → let a = c.args in There a.self.now.input.now a.self.now.ends a.k
found c = there _ _ c.args.self.now.found _ c.requires

pub overflow_add-result : goal.overflow_add-result
overflow_add-result c = let t = found (goal.at.overflow_add-result c).After-count_at-count in omega (arith, t.before, t.within, c.count_at-count.ensures)

pub slice_bounds-result-count : goal.slice_bounds-result-count
slice_bounds-result-count c = let t = found (goal.at.slice_bounds-result-count c).After-count_at-count in omega (arith, t.before, c.count_at-count.ensures)

pub slice_bounds-result-start : goal.slice_bounds-result-start
slice_bounds-result-start c = let t = found (goal.at.slice_bounds-result-start c).After-count_at-count in omega (arith, t.before, c.count_at-count.ensures)

pub slice_bounds-result-end : goal.slice_bounds-result-end
slice_bounds-result-end c = (found (goal.at.slice_bounds-result-end c).After-count_at-count).within

pub returns : goal.returns
returns c = let t = found (goal.at.returns c).After-count_at-count in rw (c.count_at-count.ensures, add-one) t.body
