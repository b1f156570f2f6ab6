-- `writes::Pen::row` meets its contract: before turn i those of the first i registers are written that differ. Assumes nothing.
use mathlib.Core.Path.{◌≡◌, refl, sym, subst, ◌∙◌}
use mathlib.Core.Bool.{true}
use mathlib.Core.List.{List}
use Prim.Native.Nat.{ℕ, ◌+◌, ◌-◌, ◌<◌, ◌≤◌}
use native.Mathlib.Omega.{arith}
use lib.ListN.{length, get_or, take, drop}
use borrow.Author.Rules.{rules}
use Rattle.lists.specs.Same.{same_list}
use Rattle.writes.specs.Steps.{from}
use Rattle.writes.proofs.Image.{length_from, from_at}
use Rattle.writes.proofs.Parts.{row_stands}
use Rattle.writes.proofs.Written.{writes_nothing, writes_next, writes_all}
use Rattle.writes.proofs.Pen.row.Goals as goal

pub returns-then-same-clause-puts : goal.returns-then-same-clause-puts
returns-then-same-clause-puts c = let a = c.args in
    let pen = a.self.now in
    let n : a.first + a.count - a.first ≡ a.count = omega arith in
    let t = sym c.same.ensures ∙ c.if-same.true in
    let same = subst (λ (n : ℕ). same_list (take n (drop a.first pen.bytes.now)) (take n (drop a.first pen.image.now)) ≡ true) n t in
    record {
      same_buffer = refl;
      same_room = refl;
      same_image = refl;
      same_bytes = refl;
      puts = row_stands pen.image.now pen.bytes.now pen.writes.now a.first a.count pen.at (search rules) (search rules) same;
    }

pub loop-address-init : goal.loop-address-init
loop-address-init c = let a = c.args in
    let z : a.first - a.first ≡ 0 = omega arith in
    record { written = rw z (writes_nothing a.self.now); at_most = omega arith }

pub loop-address-preserved : goal.loop-address-preserved
loop-address-preserved c = let l = c.loop-address in
    let rs : List ℕ = from c.args.first c.args.count in
    let w = c.put_other.ensures in
    let i : ℕ = l.address - c.args.first in
    let h : i < length rs = rw (length_from c.args.first c.args.count) (omega arith) in
    let n : c.args.first + i ≡ l.address = omega arith in
    let e : l.address ≡ get_or rs i 0 = sym (from_at c.args.first c.args.count i (omega arith) ∙ n) in
    let m : l.address + 1 - c.args.first ≡ i + 1 = omega arith in
    record {
      written = rw m (writes_next rs i l.address h e l.invariant.written w.puts);
      at_most = omega (arith, l.invariant.at_most, w.at_most);
    }

pub returns-clause-puts : goal.returns-clause-puts
returns-clause-puts c = let l = c.loop-address in
    let rs : List ℕ = from c.args.first c.args.count in
    let n : length rs ≤ l.address - c.args.first = rw (length_from c.args.first c.args.count) (omega arith) in
    writes_all rs (l.address - c.args.first) n l.invariant.written
