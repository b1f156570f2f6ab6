-- `edid::Collection::of` meets its contract: where a walk to the end finds no block that runs past it. Assumes nothing.
use mathlib.Core.Path.{◌≡◌}
use mathlib.Core.Bool.{false}
use borrow.Author.Rules.{rules}
use Rattle.std.specs.Prelude.{Err}
use Rattle.edid.specs.Screen.{data_blocks}
use Rattle.edid.specs.Found.{is_past}
use Rattle.edid.proofs.Cut.{runs_past, all_there}
use Rattle.edid.proofs.Collection.of.Goals as goal
use Rattle.edid.proofs.Collection.of.Goals.{In_ok-any_block}

pub returns-in_err-any_block : goal.returns-in_err-any_block
returns-in_err-any_block c =
    let a = c.any_block.ensures (λ b. false) (λ tag body r k. search rules) in
    let r : c.from_residual.result ≡ Err c.in_err-any_block.field-0.0 = search rules in
    rw r (runs_past (data_blocks c.args.bytes.now) _ (rw c.in_err-any_block.was at a))

none_past : (c : In_ok-any_block) → is_past (data_blocks c.args.bytes.now) ≡ false
none_past c =
    let a = c.any_block.ensures (λ b. false) (λ tag body r k. search rules) in
    all_there (data_blocks c.args.bytes.now) _ (rw c.in_ok-any_block.was at a)

pub invariant_of-result : goal.invariant_of-result
invariant_of-result c = record { whole = none_past (goal.at.invariant_of-result c).In_ok-any_block }
