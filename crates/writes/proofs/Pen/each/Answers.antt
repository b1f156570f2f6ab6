-- `writes::Pen::each` meets its contract: before turn i those of the first i registers are written that differ. Assumes nothing.
use mathlib.Core.Path.{refl}
use native.Mathlib.Omega.{arith}
use Rattle.writes.proofs.Written.{writes_nothing, writes_next}
use Rattle.writes.proofs.Pen.each.Goals as goal

pub loop-address-init : goal.loop-address-init
loop-address-init c = record { written = writes_nothing c.args.self.now; at_most = omega arith }

pub loop-address-preserved : goal.loop-address-preserved
loop-address-preserved c = let l = c.loop-address in
    let w = c.put_other.ensures in
    record {
      written = writes_next c.args.registers.now l.address-index _ c.loop-address-test.true refl l.invariant.written w.puts;
      at_most = omega (arith, l.invariant.at_most, w.at_most);
    }
