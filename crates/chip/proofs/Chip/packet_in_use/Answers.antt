-- `chip::Chip::packet_in_use` meets its contract. Assumes nothing.
use mathlib.Core.Path.{◌≡◌, ap, ◌∙◌}
use mathlib.Core.List.{List}
use Prim.Native.Nat.{ℕ}
use native.Mathlib.Omega.{arith}
use lib.ListN.{length}
use borrow.Author.Rules.{rules}
use Rattle.chip.specs.Machine.{packets, in_use}
use Rattle.chip.specs.Groups.{group_of}
use Rattle.chip.proofs.Used.{in_use_long}
use Rattle.chip.proofs.Chip.packet_in_use.Goals as goal
use Rattle.chip.proofs.Chip.packet_in_use.Goals.{After-in_use}

bytes : (c : After-in_use) → c.in_use.result.now ≡ in_use packets (group_of c.args.packet) c.args.self.now
unfolding in_use
bytes c = rw (← c.packet_holds.ensures, ← c.is_up.ensures) c.in_use.ensures

pub returns : goal.returns
returns c = let s = c.args.self.now in
    let h : length s.image ≡ 256 = search rules in
    let k : length s.packet ≡ 32 = search rules in
    let e = bytes (goal.at.returns c).After-in_use in
    record {
      in_use = e;
      long = λ few. ap (λ (l : List ℕ). length l) e ∙ in_use_long packets (group_of c.args.packet) s h c.args.packet.in_the_map (omega arith);
    }
