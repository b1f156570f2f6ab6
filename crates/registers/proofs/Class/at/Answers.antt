-- `registers::Class::at` meets its contract: each of its tables is a column of the class table. Assumes nothing.
use Rattle.registers.specs.declared.Class.{Class}
use Rattle.registers.specs.Classes.{class}
use Rattle.registers.proofs.Columns.{at_address}
use Rattle.registers.proofs.Class.at.Goals as goal

pub returns : goal.returns
returns c = let r = at_address (λ (row : Class). row.read_only) c.args.a in
    let m = at_address (λ (row : Class). row.mandated) c.args.a in
    let n = at_address (λ (row : Class). row.named) c.args.a in
    let f = at_address (λ (row : Class). row.free) c.args.a in
    let b = at_address (λ (row : Class). row.bits) c.args.a in
    λ i. class (r i) (m i) (n i) (f i) (b i)
