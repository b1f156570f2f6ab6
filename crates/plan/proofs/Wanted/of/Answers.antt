-- `plan::Wanted::of` meets its contract. Assumes nothing.
use mathlib.Core.Path.{◌≡◌, refl, sym, ap, subst, ◌∙◌}
use mathlib.Core.List.{List, ◌++◌}
use Prim.Native.Nat.{ℕ}
use lib.ListN.{get_or, replicate}
use borrow.Author.Rules.{rules}
use Rattle.clock.specs.Numbered.{Pair}
use Rattle.chip.specs.Machine.{Write}
use Rattle.writes.specs.List.{column}
use Rattle.request.specs.Read.{pair_for}
use Rattle.plan.specs.Places.{Place, places}
use Rattle.plan.specs.Wanted.{wanted, laid_out, stores, clock_registers, input_registers, matrix_registers, enable_registers, frame_registers, wiring_registers}
use Rattle.plan.proofs.Allowed.{in_range}
use Rattle.plan.proofs.Numbers.{Twenty, pair_twenty}
use Rattle.plan.proofs.Stored.{more, in_column}
use Rattle.plan.proofs.Wanted.of.Goals as goal

pub with_clock-requires : goal.with_clock-requires
with_clock-requires c = let a = c.args.accepted in subst Twenty (sym c.requires) (pair_twenty a.request (in_range a (search rules)))

pub returns : goal.returns
unfolding wanted column
returns c a = let r = c.args.accepted.request in
    let z : List ℕ = replicate 256 0 in
    let rows : List Place = places r (pair_for r) in
    let one : List Write = laid_out clock_registers rows in
    let two : List Write = laid_out input_registers rows in
    let three : List Write = laid_out matrix_registers rows in
    let four : List Write = laid_out enable_registers rows in
    let five : List Write = laid_out frame_registers rows in
    let six : List Write = laid_out wiring_registers rows in
    let all = more z ((((one ++ two) ++ three) ++ four) ++ five) six
    (more z (((one ++ two) ++ three) ++ four) five
    (more z ((one ++ two) ++ three) four
    (more z (one ++ two) three
    (more z one two (subst (λ (p : Pair). c.with_clock.new.self.bytes ≡ stores z (laid_out clock_registers (places r p))) c.requires (c.with_clock.ensures r)) (c.with_inputs.ensures (pair_for r)))
    (c.with_matrix.ensures (pair_for r)))
    (c.with_enables.ensures (pair_for r)))
    (c.with_frames.ensures (pair_for r)))
    (c.with_wiring.ensures (pair_for r)) in
    ap (λ (image : List ℕ). get_or image a 0) all ∙ in_column rows a refl
