-- `chip::group::Group::is_up` meets its contract. Assumes nothing.
use mathlib.Core.Path.{sym, ap}
use Prim.Native.Nat.{ℕ}
use lib.Dec.{eqb}
use Rattle.bits.proofs.Laws.{bit_code}
use Rattle.chip.proofs.group.Group.is_up.Goals as goal

pub returns : goal.returns
returns c = sym (ap (λ (b : ℕ). eqb b 1) (bit_code c.args.self.hold c.args.holds))
