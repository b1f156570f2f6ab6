-- `request::ask` meets its contract: rows 1 to 3, and then those of `judge`. Assumes nothing.
use mathlib.Core.Path.{sym, ◌∙◌}
use borrow.Author.Tests.{eq-eqb, ne_eqb}
use Rattle.request.proofs.Opened.{asked}
use Rattle.request.proofs.ask.Goals as goal

pub returns-then-ends-s : goal.returns-then-ends-s
returns-then-ends-s c = sym (rw (ne_eqb _ _ c.if-ends-s.true) at (asked _ _ c.in_ok-ends.ensures))

pub returns : goal.returns
returns c = c.judge.ensures ∙ sym (rw (eq-eqb _ _ c.if-ends-s.false) at (asked _ _ c.in_ok-ends.ensures))
