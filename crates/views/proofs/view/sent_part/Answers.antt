-- `views::view::sent_part` meets its contract. Assumes nothing.
use mathlib.Core.Path.{sym, ap, ◌∙◌}
use native.Mathlib.Omega.{arith}
use Rattle.std.proofs.lemmas.Result.{err_from_is_err_and}
use Rattle.chip.specs.Machine.{Group, packets, up, holds_of}
use Rattle.views.specs.View.{placed, no_part, sent_part}
use Rattle.views.proofs.Seen.{clear, none}
use Rattle.refusals.proofs.Told.{by_refusal, by_none}
use Rattle.views.proofs.view.sent_part.Goals as goal

pub returns-in_err-sent_refusal : goal.returns-in_err-sent_refusal
unfolding sent_part
returns-in_err-sent_refusal c =
    let p = err_from_is_err_and c.from_residual.result c.from_residual.ensures.1 in
    rw (p.1, p.2) (by_refusal no_part _ _ _ c.in_err-sent_refusal.ensures)

-- past the refusals the image has its length
pub bounds-image : goal.bounds-image
bounds-image c = let a = c.args in
    let k = (clear _ _ (none a.image.now a.packet.now a.which (sym c.in_ok-sent_refusal.ensures))).lengths in omega arith

pub returns : goal.returns
unfolding sent_part
returns c = let a = c.args in
    c.of.ensures
    ∙ ap (λ (g : Group). placed (up g (holds_of packets a.image.now)) g.first g.count) c.packet_at.ensures
    ∙ by_none no_part _ _ c.in_ok-sent_refusal.ensures
