-- `vendor::Run::ending` meets its contract. Assumes nothing.
use mathlib.Core.Path.{◌≡◌, ap, subst, ◌∙◌}
use Prim.Native.Nat.{ℕ, ◌+◌, ◌<◌}
use native.Mathlib.Omega.{arith}
use lib.Dec.{eqb}
use lib.ListN.{length, get_or}
use Rattle.bits.specs.Merge.{merge}
use mathlib.Core.List.{List, []}
use Rattle.chip.specs.declared.Chip.{Chip}
use Rattle.chip.specs.Machine.{Write}
use Rattle.vendor.specs.Vendor.{shortened, end_of}
use Rattle.vendor.specs.Numbered.{writes_in}
use Rattle.vendor.proofs.Loops.{wrote, ends_start, ends_next, ends_end, taken_so, by_code, length_writes, pair_code, turned_long}
use Rattle.vendor.proofs.AllTaken.{as_long}
use Rattle.vendor.proofs.Run.ending.Goals as goal
use Rattle.vendor.proofs.Run.ending.Goals.{In-loop-i}

module _ (c : In-loop-i) where
  here : c.loop-i.i < length (shortened (writes_in c.args.self.now.pairs.now) c.args.self.now.start.now)
  here = omega (arith, c.loop-i-test.true, as_long c.args.self.now.pairs.now c.args.self.now.start.now c.args.self.now.taken)

  listed : c.loop-i.i < length (writes_in c.args.self.now.pairs.now)
  listed = omega (arith, c.loop-i-test.true, length_writes c.args.self.now.pairs.now)

pub loop-i-init : goal.loop-i-init
loop-i-init c = record { whole = c.args.self.now.whole; left = ends_start (writes_in c.args.self.now.pairs.now) c.args.self.now.start.now }

pub loop-i-preserved : goal.loop-i-preserved
loop-i-preserved c =
    let z = (goal.at.loop-i-preserved c).In-loop-i in
    let list = c.args.self.now.pairs.now in
    let start = c.args.self.now.start.now in
    let i = c.loop-i.i in
    let a = get_or (get_or list i []) 0 0 in
    let v = get_or (get_or list i []) 1 0 in
    let event = eqb (i + 1) (length list) in
    let whole = turned_long event c.loop-i.state c.turn.new.state c.turn.ensures c.loop-i.invariant.whole in
    let d = by_code (writes_in list) i _ (pair_code list i) c.turn.new.state c.store.new.state c.merge-byte.result _ whole
    (c.merge-byte.ensures ∙ ap (λ (n : ℕ). merge 8 n (get_or c.turn.new.state.image a 0) v) c.read_only-keep.ensures) c.store.ensures
    (λ e. taken_so (writes_in list) start i c.loop-i.state c.loop-i.invariant.left (here z) (listed z) event
    (subst (λ (t : Chip). (wrote (writes_in list) i t).refusal ≡ 13) c.turn.ensures e)) in
    record {
      whole = d.1;
      left = ends_next (writes_in list) start i c.loop-i.state c.loop-i.invariant.left (here z) (listed z) event
          (ap (λ (n : ℕ). eqb (i + 1) n) (as_long list start c.args.self.now.taken)) c.store.new.state
          (subst (λ (t : Chip). wrote (writes_in list) i t ≡ record { refusal = 0; chip = c.store.new.state }) c.turn.ensures d.0);
    }

pub returns : goal.returns
returns c =
    let list = c.args.self.now.pairs.now in
    let s = c.args.self.now.start.now in
    ends_end (writes_in list) s c.loop-i.i c.loop-i.state c.loop-i.invariant.left
    (let e = as_long list s c.args.self.now.taken in omega (arith, e, c.loop-i-test.false))
    ∙ ap (λ (ws : List Write). end_of ws s) c.args.self.now.taken
