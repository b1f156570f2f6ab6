-- `writes::write_list` meets its contract: a part after the other, they are the write list. Assumes nothing.
use mathlib.Core.Path.{◌≡◌, refl, sym, subst, ◌∙◌}
use mathlib.Core.List.{List}
use Prim.Native.Nat.{ℕ}
use lib.ListN.{length, get_or}
use borrow.Author.Tests.{eq-eqb, le-ltb}
use borrow.Author.Rules.{rules}
use Rattle.writes.specs.List.{Lists}
use Rattle.writes.proofs.Written.{writes_then, writes_list}
use Rattle.writes.proofs.write_list.Goals as goal

pub returns : goal.returns
returns c =
    let image : List ℕ = c.in-Ok.image.now in
    let want : ℕ → ℕ = λ b. get_or c.args.wanted.now b 0 in
    let whole = c.in-Ok.ensures.1 in
    let sized : length image ≡ 256 = rw whole.same whole.long in
    let w = writes_then _ _ (writes_then _ _ (writes_then _ _ (writes_then _ _ (writes_then _ _ c.put.ensures c.each.ensures.puts)
    c.coefficients.ensures.puts) c.packets.ensures.puts) c.each-2.ensures.puts) c.put-2.ensures in
    let t : Lists want image c.args.writes.now c.put-2.new.self.at c.put-2.new.self.writes.now
    = simp (eq-eqb _ _ sized, le-ltb _ _ c.if-writes-lt256.false) (writes_list want c.closed-bytes.ensures refl c.if-writes-lt256.false w) in
    let u : Lists want c.args.image.now c.args.writes.now c.put-2.new.self.at c.put-2.new.self.writes.now
    = subst (λ (i : List ℕ). Lists want i c.args.writes.now c.put-2.new.self.at c.put-2.new.self.writes.now) whole.same t in
    let same = sym w.same_buffer in
    (u.0, search rules ∙ u.1)
