-- `views::view::mute_bits` meets its contract. Assumes nothing.
use mathlib.Core.Path.{◌∙◌}
use Rattle.views.proofs.Seen.{mute_shown}
use Rattle.views.proofs.view.mute_bits.Goals as goal
use Rattle.views.proofs.view.mute_bits.Goals.{then-is_up, else-is_up}

pub returns : goal.returns
returns c = let a = c.args in
    mute_shown a.image.now a.packet.now c.if-is_up.byte (elim c.if-is_up.branch [
      | then-is_up w ↦ w.byte-is ∙ w.byte_at-byte.ensures ∙ rw (← c.byte_at-holds.ensures, ← w.if-is_up.ensures)
      | else-is_up w ↦ w.byte-is ∙ w.byte_at-byte-else-is_up.ensures ∙ rw (← c.byte_at-holds.ensures, ← w.if-is_up.ensures)
    ])
