-- `line::Text::placed` meets its contract: a part of the line after the other. Assumes nothing.
use Rattle.line.specs.Words.{ascii}
use Rattle.line.specs.Verdict.{placed_text}
use Rattle.line.proofs.Stored.{then, from_none, widened}
use Rattle.line.proofs.buffer.Text.placed.Goals as goal

pub returns : goal.returns
unfolding placed_text
returns c =
    from_none _ c.new-out.ensures (then _ (ascii "\n") (then _ _ (widened (ascii "refused ") c.from.ensures c.named.ensures.adds) c.named-2.ensures.adds) c.text.ensures)
