-- `chip::Chip::store` meets its contract. Assumes nothing.
use mathlib.Core.Path.{sym, ap, ◌∙◌}
use mathlib.Core.Bool.{not}
use lib.ListN.{set}
use Rattle.chip.specs.declared.Chip.{Chip}
use Rattle.chip.specs.Machine.{converter}
use Rattle.chip.specs.Write.{lent_as, buffer_after, mark_after, put}
use Rattle.chip.proofs.Chip.store.Goals as goal

pub returns : goal.returns
unfolding put
returns c = let a = c.args in (
  sym (ap not c.if-leaves_two.false) ∙ ap not (rw c.packet_holds.ensures at c.leaves_two.ensures),
  rw c.from.ensures (ap (λ (t : Chip). lent_as (set t.image a.address a.byte) t.packet t.coefficients t.waiting)
      (c.hold_coefficients.ensures ∙ ap (λ (t : Chip). record t {
        coefficients = buffer_after converter a.address a.byte t;
        waiting = mark_after a.address a.byte t;
      }) c.hold_packet.ensures)),
)
