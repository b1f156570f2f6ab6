-- `vendor::Run::first_fault` meets its contract. Assumes nothing.
use mathlib.Core.Path.{◌≡◌, refl, sym, ap, ap₂, ◌∙◌}
use mathlib.Core.Bool.{Bool, true, false, not, ◌&&◌, ◌||◌}
use mathlib.Core.List.{List, []}
use Prim.Native.Nat.{ℕ, ◌+◌, ◌<◌}
use native.Mathlib.Omega.{arith}
use lib.Dec.{eqb}
use lib.ListN.{length, get_or}
use borrow.Author.Rules.{rules}
use borrow.Author.Tests.{eq-eqb, ne_eqb}
use Rattle.chip.specs.Machine.{Write}
use Rattle.vendor.specs.Vendor.{pair_at, shortened}
use Rattle.vendor.specs.Numbered.{writes_in}
use Rattle.vendor.specs.Found.{shown, fair_test, is_between, is_turned, is_next, first_fault}
use Rattle.vendor.proofs.Loops.{wrote, left_start, left_next, left_torn, left_unfair, left_end, goes, fairly_code, merged, is_taken, by_code, length_writes, pair_code}
use Rattle.vendor.proofs.AllTaken.{as_long}
use Rattle.vendor.proofs.Run.first_fault.Goals as goal
use Rattle.vendor.proofs.Run.first_fault.Goals.{In-loop-i, After-store, then-last, else-last}

module _ (c : In-loop-i) where
  here : c.loop-i.i < length (shortened (writes_in c.args.self.now.pairs.now) c.args.self.now.start.now)
  here = omega (arith, c.loop-i-test.true, as_long c.args.self.now.pairs.now c.args.self.now.start.now c.args.self.now.taken)

  listed : c.loop-i.i < length (writes_in c.args.self.now.pairs.now)
  listed = omega (arith, c.loop-i-test.true, length_writes c.args.self.now.pairs.now)

  -- what is found of what is taken is found of all
  found : let w = c.args.ways.now in (place : ℕ) → place ≡ first_fault (shown w.old) (shown w.new) (shortened (writes_in c.args.self.now.pairs.now) c.args.self.now.start.now) c.args.self.now.start.now
      → place ≡ first_fault (shown w.old) (shown w.new) (writes_in c.args.self.now.pairs.now) c.args.self.now.start.now
  found place e = let w = c.args.ways.now in e ∙ ap (λ (ws : List Write). first_fault (shown w.old) (shown w.new) ws c.args.self.now.start.now) c.args.self.now.taken

pub loop-i-init : goal.loop-i-init
loop-i-init c = let w = c.args.ways.now in
    record { whole = c.args.self.now.whole; left = left_start (shown w.old) (shown w.new) (writes_in c.args.self.now.pairs.now) c.args.self.now.start.now }

pub returns-then-not-is_fair : goal.returns-then-not-is_fair
returns-then-not-is_fair c =
    let z = (goal.at.returns-then-not-is_fair c).In-loop-i in
    let w = c.args.ways.now in
    let list = c.args.self.now.pairs.now in
    let small : get_or (get_or list c.loop-i.i []) 0 0 < 256 = search rules in
    let f = fairly_code _ c.new-columns.ensures list c.loop-i.i c.loop-i.state.image _ c.keep-keep.ensures small in
    found z _ (left_unfair (shown w.old) (shown w.new) (writes_in list) c.args.self.now.start.now c.loop-i.i c.loop-i.state c.loop-i.invariant.left (here z) (listed z)
    (sym (c.is_fair.ensures ∙ f) ∙ c.if-not-is_fair.true))

-- the write, and the cut after it
module _ (c : After-store) (h : c.loop-i.i < length (shortened (writes_in c.args.self.now.pairs.now) c.args.self.now.start.now)) (k : c.loop-i.i < length (writes_in c.args.self.now.pairs.now)) where
  stored : (wrote (writes_in c.args.self.now.pairs.now) c.loop-i.i c.loop-i.state ≡ record { refusal = 0; chip = c.store.new.state }) × (length c.store.new.state.image ≡ 256)
  stored =
      let list = c.args.self.now.pairs.now in
      let w = c.args.ways.now in
      let t = c.new-columns in
      by_code (writes_in list) c.loop-i.i _ (pair_code list c.loop-i.i) c.loop-i.state c.store.new.state c.merge-byte.result _ c.loop-i.invariant.whole
      (c.merge-byte.ensures ∙ merged t.result t.ensures _ _ _) c.store.ensures
      (λ e. is_taken (shown w.old) (shown w.new) (writes_in list) c.args.self.now.start.now c.loop-i.i c.loop-i.state c.loop-i.invariant.left h k e)

  abbrev cut : Bool
  cut =
      let w = c.args.ways.now in
      goes (shown w.old) (shown w.new) (writes_in c.args.self.now.pairs.now) c.args.self.now.start.now c.loop-i.i c.loop-i.state c.loop-i.invariant.left h k c.store.new.state stored.0

  long : length (shortened (writes_in c.args.self.now.pairs.now) c.args.self.now.start.now) ≡ length c.args.self.now.pairs.now
  long = as_long c.args.self.now.pairs.now c.args.self.now.start.now c.args.self.now.taken

  -- the test, whether the pair is the last or another
  tests : (last careful : Bool) → last ≡ eqb (c.loop-i.i + 1) (length c.args.self.now.pairs.now)
      → (let w = c.args.ways.now in careful ≡ (is_between (shown w.old) (shown w.new) (get_or (get_or c.args.self.now.pairs.now c.loop-i.i []) 0 0) c.packet_holds-held.result
      c.store.new.state.image c.store.new.state.packet c.store.new.state.waiting
      && (not (eqb (c.loop-i.i + 2) (length c.args.self.now.pairs.now)) || is_turned (shown w.old) (shown w.new) c.store.new.state.image c.store.new.state.waiting)))
      → (last || careful) ≡ cut
  tests last careful l q =
      let w = c.args.ways.now in
      let list = c.args.self.now.pairs.now in
      let t = c.store.new.state in
      let e = sym long in
      ap₂ (λ (a b : Bool). a || b) (l ∙ ap (λ (n : ℕ). eqb (c.loop-i.i + 1) n) e)
      (q ∙ ap (λ (held : ℕ). is_between (shown w.old) (shown w.new) (get_or (get_or list c.loop-i.i []) 0 0) held t.image t.packet t.waiting
      && (not (eqb (c.loop-i.i + 2) (length list)) || is_turned (shown w.old) (shown w.new) t.image t.waiting)) c.packet_holds-held.ensures
      ∙ ap₂ (λ (p : Write) (n : ℕ). is_next (shown w.old) (shown w.new) (eqb (c.loop-i.i + 2) n) p.address c.loop-i.state t)
      (sym (pair_code list c.loop-i.i)) e)

  last_goes : eqb (c.loop-i.i + 1) (length c.args.self.now.pairs.now) ≡ true → cut ≡ true
  last_goes e = sym (tests true _ (sym e) refl)

  fair : c.is_fair.result ≡ fair_test c.loop-i.state.image (pair_at (writes_in c.args.self.now.pairs.now) c.loop-i.i)
  fair =
      let list = c.args.self.now.pairs.now in
      let small : get_or (get_or list c.loop-i.i []) 0 0 < 256 = search rules in
      c.is_fair.ensures ∙ fairly_code _ c.new-columns.ensures list c.loop-i.i c.loop-i.state.image _ c.keep-keep.ensures small

pub returns-then-not-is_careful : goal.returns-then-not-is_careful
returns-then-not-is_careful c =
    let z = (goal.at.returns-then-not-is_careful c).In-loop-i in
    let u = (goal.at.returns-then-not-is_careful c).After-store in
    let w = c.args.ways.now in
    let h = here z in
    let k = listed z in
    let torn : cut u h k ≡ false = elim c.if-last.branch [
      | then-last v ↦
          let is : c.if-last.value ≡ true = search rules in
          last_goes u h k (eq-eqb _ _ v.if-last.true) ∙ sym is ∙ c.if-not-is_careful.true
      | else-last v ↦ sym (tests u h k false v.is_careful.result (sym (ne_eqb _ _ v.if-last.false)) v.is_careful.ensures) ∙ sym v.value-is ∙ c.if-not-is_careful.true
    ] in
    found z _ (left_torn (shown w.old) (shown w.new) (writes_in c.args.self.now.pairs.now) c.args.self.now.start.now c.loop-i.i c.loop-i.state c.loop-i.invariant.left h k c.store.new.state (stored u h k).0
    (sym (fair u h k) ∙ c.if-not-is_fair.false) torn)

pub loop-i-preserved : goal.loop-i-preserved
loop-i-preserved c =
    let z = (goal.at.loop-i-preserved c).In-loop-i in
    let u = (goal.at.loop-i-preserved c).After-store in
    let w = c.args.ways.now in
    let h = here z in
    let k = listed z in
    let whole : cut u h k ≡ true = elim c.if-last.branch [
      | then-last v ↦ last_goes u h k (eq-eqb _ _ v.if-last.true)
      | else-last v ↦ sym (tests u h k false v.is_careful.result (sym (ne_eqb _ _ v.if-last.false)) v.is_careful.ensures) ∙ sym v.value-is ∙ c.if-not-is_careful.false
    ] in
    record {
      whole = (stored u h k).1;
      left = left_next (shown w.old) (shown w.new) (writes_in c.args.self.now.pairs.now) c.args.self.now.start.now c.loop-i.i c.loop-i.state c.loop-i.invariant.left h k
          c.store.new.state (stored u h k).0 (sym (fair u h k) ∙ c.if-not-is_fair.false) whole;
    }

pub returns : goal.returns
returns c =
    let w = c.args.ways.now in
    let list = c.args.self.now.pairs.now in
    let s = c.args.self.now.start.now in
    let e : c.loop-i.i ≡ length list = omega (arith, c.loop-i-test.false) in
    sym e ∙ left_end (shown w.old) (shown w.new) (writes_in list) s c.loop-i.i c.loop-i.state c.loop-i.invariant.left
    (let a = as_long list s c.args.self.now.taken in omega (arith, e, a))
    ∙ ap (λ (ws : List Write). first_fault (shown w.old) (shown w.new) ws s) c.args.self.now.taken
