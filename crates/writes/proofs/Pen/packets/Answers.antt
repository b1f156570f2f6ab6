-- `writes::Pen::packets` meets its contract: a packet after the other. Assumes nothing.
use mathlib.Core.Path.{sym, ◌∙◌}
use Rattle.writes.specs.Parts.{both_pairs}
use Rattle.writes.proofs.Written.{writes_then, writes_as}
use Rattle.writes.proofs.Pen.packets.Goals as goal

pub returns-then-is_up-clause-puts : goal.returns-then-is_up-clause-puts
returns-then-is_up-clause-puts c =
    writes_as _ both_pairs (rw (sym c.is_up.ensures ∙ c.if-is_up.true))
    (writes_then _ _ c.packet.ensures.puts c.packet-then-is_up.ensures.puts)

pub returns-else-is_up-clause-puts : goal.returns-else-is_up-clause-puts
returns-else-is_up-clause-puts c =
    writes_as _ both_pairs (rw (sym c.is_up.ensures ∙ c.if-is_up.false))
    (writes_then _ _ c.packet-else-is_up.ensures.puts c.packet-else-is_up-2.ensures.puts)
