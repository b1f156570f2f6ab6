-- `decode::ends` meets its contract. Assumes nothing.
use mathlib.Core.Path.{◌≡◌, sym, ◌∙◌}
use mathlib.Core.Bool.{false}
use lib.ListN.{length}
use borrow.Author.Rules.{rules}
use Rattle.request.specs.Bytes.{request_in_family}
use Rattle.plan.specs.Plan.{stands_in}
use Rattle.decode.proofs.Found.{not_second}
use Rattle.decode.proofs.ends.Goals as goal

pub returns-else-is_coherent : goal.returns-else-is_coherent
returns-else-is_coherent c = let a = c.args in
    let f : stands_in (request_in_family 0 a.q) a.image.now ≡ false = sym (rw c.in_family.ensures at c.stands.ensures) ∙ c.if-stands.false in
    let twelve : length a.q.matrix.coefficients ≡ 12 = search rules in
    rw (c.if-is_coherent.false, f, not_second a.q a.image.now twelve (sym c.is_coherent.ensures ∙ c.if-is_coherent.false) f)
