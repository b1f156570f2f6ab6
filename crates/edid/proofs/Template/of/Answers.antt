-- `edid::Template::of` meets its contract. Assumes nothing.
use mathlib.Core.Path.{◌≡◌}
use native.Mathlib.Omega.{arith}
use borrow.Author.Rules.{rules}
use Rattle.std.specs.Prelude.{Ok}
use Rattle.edid.proofs.Placed.{place_told, bounded}
use Rattle.edid.proofs.Template.of.Goals as goal

pub overflow_add-result : goal.overflow_add-result
overflow_add-result c = let i = c.args.request.now in
    let w : c.walk.result ≡ Ok c.in_ok-ends.ends = search rules in
    omega (arith, place_told i c.in_ok-ends.ends (rw w at c.walk.ensures), bounded i, c.if-request-gt-LONGEST.false)
