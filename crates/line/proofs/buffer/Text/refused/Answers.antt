-- `line::Text::refused` meets its contract: a part of the line after the other. Assumes nothing.
use Rattle.line.specs.Words.{ascii, refused_text}
use Rattle.line.proofs.Stored.{then, from_none, widened}
use Rattle.line.proofs.buffer.Text.refused.Goals as goal

pub returns : goal.returns
unfolding refused_text
returns c = from_none _ c.new-out.ensures (then _ (ascii "\n") (widened (ascii "refused ") c.from.ensures c.named.ensures.adds) c.text.ensures)
