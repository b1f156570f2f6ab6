-- `chip::group::Group::fill` meets its contract. Assumes nothing.
use mathlib.Core.Path.{◌≡◌, ap, ◌∙◌}
use mathlib.Core.List.{List}
use Prim.Native.Nat.{ℕ}
use native.Mathlib.Omega.{arith}
use lib.ListN.{length, drop, length-drop}
use lib.Seq.{length-take-le}
use Rattle.lists.specs.Over.{over}
use Rattle.lists.proofs.Copied.{over_front}
use Rattle.chip.specs.Machine.{registers_of}
use Rattle.chip.specs.Groups.{group_of}
use Rattle.chip.proofs.group.Group.fill.Goals as goal

pub returns : goal.returns
returns c = let a = c.args in
    let g = group_of a.self in
    let l : length (registers_of g a.image.now) ≡ a.self.count = length-take-le a.self.count (drop a.self.first a.image.now) (simp length-drop (omega arith)) in
    c.copy.ensures ∙ ap (λ (s : List ℕ). over s a.buffer.now) c.registers.ensures ∙ over_front (registers_of g a.image.now) a.buffer.now (omega (arith, l)) ∙ rw l
