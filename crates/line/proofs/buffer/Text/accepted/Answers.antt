-- `line::Text::accepted` meets its contract: a part of the line after the other. Assumes nothing.
use Rattle.line.specs.Words.{ascii, accepted_text}
use Rattle.line.proofs.Stored.{then, from_none, widened}
use Rattle.line.proofs.buffer.Text.accepted.Goals as goal

pub returns : goal.returns
unfolding accepted_text
returns c =
    from_none _ c.new-out.ensures (
    then _ (ascii "\n")
    (then _ _ (then _ _ (then _ _ (then _ _ (widened (ascii "accepted vic ") c.from.ensures c.named.ensures.adds) c.named-2.ensures.adds) c.named-3.ensures.adds) c.checked.ensures.adds) c.checked-2.ensures.adds)
    c.text.ensures)
