-- `views::entry::vsync_into` meets its contract. Assumes nothing.
use mathlib.Core.Path.{◌≡◌, sym, ap, ◌∙◌}
use mathlib.Core.List.{[], ◌∷◌}
use Prim.Native.Nat.{ℕ}
use lib.ListN.{set}
use Rattle.std.proofs.lemmas.Result.{err_from_is_err_and}
use Rattle.chip.specs.Write.{vsync_of}
use Rattle.views.specs.Entry.{mark_byte, lent, state_of, slices_of, SliceAnswer}
use Rattle.views.proofs.Lent.{byte_of, stored_alone, let_past, lent_sized, turn_away, turn_in}
use Rattle.views.proofs.entry.vsync_into.Goals as goal

pub returns-in_err-sized : goal.returns-in_err-sized
returns-in_err-sized c = let a = c.args in
    let p = err_from_is_err_and c.from_residual.result c.from_residual.ensures.1 in
    let e = turn_away (lent a.image.now a.packet.now a.coefficients.now a.mark.now) _ c.in_err-sized.ensures in
    rw (p.1, p.2) (ap (λ (e : SliceAnswer). e.refusal) e, ap (λ (e : SliceAnswer). e.slices) e)

pub returns : goal.returns
unfolding vsync_of
returns c = let a = c.args in
    let l = lent a.image.now a.packet.now a.coefficients.now a.mark.now in
    let t = let_past l c.in_ok-sized.ensures in
    let e = turn_in l t in
    let m : set a.mark.now 0 c.from.result ≡ (slices_of (vsync_of (state_of l))).mark =
    stored_alone a.mark.now c.from.result (lent_sized l t).mark
    ∙ ap (λ (n : ℕ). n ∷ []) (c.from.ensures ∙ byte_of c.still_waits.result ∙ ap mark_byte c.still_waits.ensures)
    in
    (ap (λ (e : SliceAnswer). e.refusal) (sym e), ap (lent a.image.now a.packet.now a.coefficients.now) m ∙ ap (λ (e : SliceAnswer). e.slices) (sym e))
