-- `vendor::taken` meets its contract. Assumes nothing.
use mathlib.Core.Path.{◌≡◌, sym, ap, subst, ◌∙◌}
use Prim.Native.Nat.{ℕ, ◌+◌, ◌<◌}
use native.Mathlib.Omega.{arith}
use lib.Dec.{eqb}
use lib.ListN.{length, take}
use lib.Seq.{take_all}
use borrow.Author.Tests.{eq-eqb, ne_eqb}
use Rattle.bits.specs.Merge.{merge}
use Rattle.registers.specs.Classes.{read_only}
use Rattle.chip.specs.Machine.{Write, packets}
use Rattle.chip.specs.Write.{two}
use Rattle.vendor.specs.Vendor.{pair_at}
use Rattle.vendor.specs.Numbered.{writes_in}
use Rattle.vendor.proofs.Loops.{Counts, counts_start, counts_away, counts_next, counts_stop, counts_end, length_writes, pair_code}
use Rattle.vendor.proofs.taken.Goals as goal
use Rattle.vendor.proofs.taken.Goals.{then-address-eq-INFOFRAME_UPDATE+else-two_up, else-address-eq-INFOFRAME_UPDATE, In-loop-i}

module _ (c : In-loop-i) where
  turn : c.loop-i.i < length (writes_in c.args.list.now)
  turn = omega (arith, c.loop-i-test.true, length_writes c.args.list.now)

  -- the byte of the holds after a pair to 0x4A
  its_byte : (keep byte : ℕ) → let w : Write = pair_at (writes_in c.args.list.now) c.loop-i.i in
      w.address ≡ 74 → keep ≡ read_only 74 → byte ≡ merge 8 keep c.loop-i.held w.value → byte ≡ merge 8 (read_only w.address) c.loop-i.held w.value
  its_byte keep byte e k b = b ∙ ap (λ (x : ℕ). merge 8 x c.loop-i.held (pair_at (writes_in c.args.list.now) c.loop-i.i).value) (k ∙ ap read_only (sym e))

pub loop-i-init : goal.loop-i-init
loop-i-init c = counts_start c.args.start (writes_in c.args.list.now)

pub returns-then-two_up : goal.returns-then-two_up
returns-then-two_up c =
    let z = (goal.at.returns-then-two_up c).In-loop-i in
    let ws = writes_in c.args.list.now in
    let p = pair_code c.args.list.now c.loop-i.i in
    let e = ap (λ (w : Write). w.address) p ∙ c.if-address-eq-INFOFRAME_UPDATE.true in
    let b = its_byte z _ _ e c.read_only-keep.ensures (c.merge-held.ensures ∙ ap (λ (w : Write). merge 8 c.read_only-keep.result c.loop-i.held w.value) (sym p)) in
    ap (λ (n : ℕ). take n c.args.list.now)
    (counts_stop c.args.start ws c.loop-i.i c.loop-i.held c.loop-i.invariant (turn z) (eq-eqb _ _ e) (ap two (sym b) ∙ sym c.two_up.ensures ∙ c.if-two_up.true))

pub loop-i-preserved : goal.loop-i-preserved
loop-i-preserved c =
    let z = (goal.at.loop-i-preserved c).In-loop-i in
    let start = c.args.start in
    let ws = writes_in c.args.list.now in
    let p = pair_code c.args.list.now c.loop-i.i in
    elim c.if-address-eq-INFOFRAME_UPDATE.branch [
      | then-address-eq-INFOFRAME_UPDATE+else-two_up w ↦
          let e = ap (λ (w : Write). w.address) p ∙ w.if-address-eq-INFOFRAME_UPDATE.true in
          let b = its_byte z _ _ e c.read_only-keep.ensures (w.merge-held.ensures ∙ ap (λ (w : Write). merge 8 c.read_only-keep.result c.loop-i.held w.value) (sym p)) in
          subst (Counts start ws (c.loop-i.i + 1)) (sym (w.held-is ∙ b))
          (counts_next start ws c.loop-i.i c.loop-i.held c.loop-i.invariant (turn z) (eq-eqb _ _ e) (ap two (sym b) ∙ sym w.two_up.ensures ∙ w.if-two_up.false))
      | else-address-eq-INFOFRAME_UPDATE w ↦
          subst (Counts start ws (c.loop-i.i + 1)) (sym w.held-is)
          (counts_away start ws c.loop-i.i c.loop-i.held c.loop-i.invariant (turn z)
          (ap (λ (w : Write). eqb w.address packets.register) p ∙ ne_eqb _ _ w.if-address-eq-INFOFRAME_UPDATE.false))
    ]

pub returns : goal.returns
returns c =
    let list = c.args.list.now in
    let e : c.loop-i.i ≡ length (writes_in list) = omega (arith, length_writes list, c.loop-i-test.false) in
    let q = counts_end c.args.start (writes_in list) c.loop-i.i c.loop-i.held c.loop-i.invariant e in
    sym (take_all _ list (omega (arith, length_writes list, e, q)))
