-- `chip::Chip::apply` meets its contract. Assumes nothing.
-- the state has the length of its type
use mathlib.Core.Path.{◌≡◌, refl, subst, ◌∙◌}
use Prim.Native.Nat.{ℕ}
use lib.ListN.{length}
use Rattle.chip.specs.Write.{stored, Stores}
use Rattle.chip.proofs.Writes.{left_alone, taken_write}
use borrow.Author.Rules.{rules}
use Rattle.chip.proofs.Chip.apply.Goals as goal
use Rattle.chip.proofs.Chip.apply.Goals.{After-store, Start}

whole : (z : Start) → length z.args.self.now.image ≡ 256
whole z = search rules

at : (b : After-store) → let a = b.args in
    Stores a.self.now a.address (stored a.address a.value a.self.now.image) b.store.result b.store.new.self
unfolding stored
at b =
    let a = b.args in
    subst (λ (n : ℕ). Stores a.self.now a.address n b.store.result b.store.new.self) (b.merge-byte.ensures ∙ rw (b.read_only-keep.ensures, b.from.ensures) refl) b.store.ensures

pub returns-then-store : goal.returns-then-store
returns-then-store c = let a = c.args in
    taken_write a.self.now a.address a.value (whole (goal.at.returns-then-store c).Start) _ _ (at (goal.at.returns-then-store c).After-store) c.if-store.true

pub returns-else-store : goal.returns-else-store
returns-else-store c = let a = c.args in
    left_alone a.self.now a.address a.value (whole (goal.at.returns-else-store c).Start) _ _ (at (goal.at.returns-else-store c).After-store) c.if-store.false
