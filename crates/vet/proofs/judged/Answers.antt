-- `vet::judged` meets its contract: the parts of the input, where it has them. Assumes nothing.
use mathlib.Core.Path.{refl}
use borrow.Author.Tests.{le-ltb}
use Rattle.vet.proofs.Taken.{pieces}
use Rattle.vet.proofs.judged.Goals as goal

pub returns : goal.returns
returns c =
    let a = c.split_at.ensures in
    let b = c.split_at-2.ensures in
    let d = c.split_at-3.ensures in
    let p = pieces 256 32 24 288 312 313 1 c.args.input.now _ _ _ refl refl refl a.back b.back d.back in
    rw (le-ltb _ _ c.if-input-lt-AHEAD.false) (rw (a.front, b.front, d.front, a.back, p.0, p.1, p.2) at c.vet.ensures.vets)
