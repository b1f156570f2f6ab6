-- `writes::Pen::row` meets its contract: before turn i those of the first i registers are written that differ. Assumes nothing.
use Prim.Native.Nat.{◌-◌}
use Rattle.writes.specs.Steps.{from}
use Rattle.writes.specs.Pen.{AddsAtMost, Penned}
use Rattle.writes.proofs.Written.{first_of}
use Rattle.writes.proofs.Pen.row.Given as goal

abbrev pub invariant-loop-address : goal.invariant-loop-address
invariant-loop-address l = record {
  written : Penned l.initial.self (first_of (from l.first l.count) (l.address - l.first)) l.self;
  at_most : AddsAtMost l.initial.self (l.address - l.first) l.self;
}
