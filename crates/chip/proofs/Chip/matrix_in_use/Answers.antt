-- `chip::Chip::matrix_in_use` meets its contract. Assumes nothing.
use mathlib.Core.Path.{◌≡◌, ap, ◌∙◌}
use mathlib.Core.List.{List}
use Prim.Native.Nat.{ℕ}
use native.Mathlib.Omega.{arith}
use lib.Dec.{lit≤}
use lib.ListN.{length}
use borrow.Author.Rules.{rules}
use Rattle.chip.specs.Machine.{converter, matrix, in_use}
use Rattle.chip.proofs.Used.{in_use_long}
use Rattle.chip.proofs.Chip.matrix_in_use.Goals as goal
use Rattle.chip.proofs.Chip.matrix_in_use.Goals.{After-in_use}

bytes : (c : After-in_use) → c.in_use.result.now ≡ in_use converter matrix c.args.self.now
unfolding in_use
bytes c = rw (← c.is_buffered.ensures) c.in_use.ensures

pub returns : goal.returns
returns c = let s = c.args.self.now in
    let h : length s.image ≡ 256 = search rules in
    let k : length s.coefficients ≡ 24 = search rules in
    let e = bytes (goal.at.returns c).After-in_use in
    record {
      in_use = e;
      long = ap (λ (l : List ℕ). length l) e ∙ in_use_long converter matrix s h (lit≤ tt) (omega arith);
    }
