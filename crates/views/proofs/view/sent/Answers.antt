-- `views::view::sent` meets its contract. Assumes nothing.
use mathlib.Core.Path.{◌≡◌, refl, ap, ◌∙◌}
use Prim.Native.Nat.{ℕ, ◌+◌}
use native.Mathlib.Omega.{arith}
use Rattle.views.proofs.Seen.{within, reads}
use Rattle.views.proofs.view.sent.Goals as goal

pub slice_bounds-result-end : goal.slice_bounds-result-end
slice_bounds-result-end c = let a = c.args in
    let w = (within a.image.now a.packet.now a.which _ c.in-Ok.ensures).0 (rw c.if-held.true) in
    omega arith

pub returns-then-held : goal.returns-then-held
returns-then-held c = let a = c.args in
    reads a.image.now a.packet.now a.which _ c.in-Ok.ensures a.image.ref_ptr a.packet.ref_ptr _ _ (rw c.if-held.true (refl, refl))

pub slice_bounds-result-end-else-held : goal.slice_bounds-result-end-else-held
slice_bounds-result-end-else-held c = let a = c.args in
    (within a.image.now a.packet.now a.which _ c.in-Ok.ensures).1 (rw c.if-held.false (λ e. absurd (omega arith)))

pub returns-else-held : goal.returns-else-held
returns-else-held c = let a = c.args in
    reads a.image.now a.packet.now a.which _ c.in-Ok.ensures a.image.ref_ptr a.packet.ref_ptr _ _ (rw c.if-held.false (refl, refl))

pub returns-in-Err : goal.returns-in-Err
returns-in-Err c = let a = c.args in
    let r = reads a.image.now a.packet.now a.which _ c.in-Err.ensures a.image.ref_ptr a.packet.ref_ptr _ _ (refl, refl) in
    let z : a.image.ref_ptr.1 ≡ 0 + a.image.ref_ptr.1 = omega arith in
    (r.0, ap (λ (n : ℕ). (a.image.ref_ptr.0, n)) z ∙ r.1)
