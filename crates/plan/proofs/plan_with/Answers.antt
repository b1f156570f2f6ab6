-- `plan::plan_with` meets its contract, return by return. Assumes nothing.
use mathlib.Core.Path.{◌≡◌, refl, sym, ap, subst, ◌∙◌}
use mathlib.Core.Logic.{◌≢◌}
use mathlib.Core.List.{List}
use Prim.Native.Nat.{ℕ}
use native.Mathlib.Omega.{arith}
use lib.ListN.{length, get_or}
use borrow.Author.Rules.{rules}
use Rattle.std.proofs.lemmas.Grind.{common_steps}
use Rattle.std.proofs.lemmas.Result.{err_from_is_err_and}
use Rattle.refusals.specs.Numbered.{refusal_number}
use Rattle.clock.specs.Numbered.{Pair}
use Rattle.request.specs.Read.{pair_for}
use Rattle.refusals.proofs.Told.{refusal_some}
use Rattle.writes.specs.List.{ready, Lists}
use Rattle.plan.specs.Numbered.{planned_told}
use Rattle.plan.specs.Plan.{nothing}
use Rattle.plan.proofs.Allowed.{in_range}
use Rattle.plan.proofs.Numbers.{pair_nine}
use Rattle.plan.proofs.Answer.{seven, eight, nine, ten, accepts, refuses}
use Rattle.plan.proofs.plan_with.Goals as goal
use Rattle.plan.proofs.plan_with.Goals.{After-is_ready}

-- past the first test the image has its length, and past the second it is ready
module _ (c : After-is_ready) where
  sized : length c.args.image.now ≡ 256
  sized = search rules

  same : c.in_ok-image.image.now ≡ c.args.image.now
  same = search rules

  tested : c.is_ready.result ≡ ready c.args.image.now
  tested = rw same at c.is_ready.ensures

pub returns-in_err-image : goal.returns-in_err-image
returns-in_err-image c = let a = c.args in
    let n : length a.image.now ≢ 256 = grind (arith, common_steps) in
    let r : planned_told c.from_residual.result ≡ nothing 7 = grind (arith, common_steps) in
    refuses a.accepted.request a.image.now a.writes.now 7 r (seven a.accepted.request a.image.now a.writes.now n) (omega arith)

pub returns-then-not-is_ready : goal.returns-then-not-is_ready
returns-then-not-is_ready c = let a = c.args in
    let t = (goal.at.returns-then-not-is_ready c).After-is_ready in
    refuses a.accepted.request a.image.now a.writes.now 8 refl (eight a.accepted.request a.image.now a.writes.now (sized t) (sym (tested t) ∙ c.if-not-is_ready.true)) (omega arith)

pub returns-in_err-pair : goal.returns-in_err-pair
returns-in_err-pair c = let a = c.args in
    let t = (goal.at.returns-in_err-pair c).After-is_ready in
    let p = err_from_is_err_and c.from_residual-in_err-pair.result c.from_residual-in_err-pair.ensures.1 in
    let n : refusal_number c.in_err-pair.field-0.0 ≡ (pair_for a.accepted.request).refusal = ap (λ (p : Pair). p.refusal) c.in_err-pair.ensures in
    let some : (pair_for a.accepted.request).refusal ≢ 0 = λ z. refusal_some c.in_err-pair.field-0.0 (n ∙ z) in
    let r : planned_told c.from_residual-in_err-pair.result ≡ nothing 9 = rw (p.1, p.2, n, pair_nine a.accepted.request (in_range a.accepted (search rules)) some) in
    refuses a.accepted.request a.image.now a.writes.now 9 r (nine a.accepted.request a.image.now a.writes.now (sized t) (sym (tested t) ∙ c.if-not-is_ready.false) some) (omega arith)

pub returns-then-writes-lt256 : goal.returns-then-writes-lt256
returns-then-writes-lt256 c = let a = c.args in
    let t = (goal.at.returns-then-writes-lt256 c).After-is_ready in
    let paired : (pair_for a.accepted.request).refusal ≡ 0 = sym (ap (λ (p : Pair). p.refusal) c.in_ok-pair.ensures) in
    refuses a.accepted.request a.image.now a.writes.now 10 refl
    (ten a.accepted.request a.image.now a.writes.now (sized t) (sym (tested t) ∙ c.if-not-is_ready.false) paired c.if-writes-lt256.true) (omega arith)

pub returns : goal.returns
returns c = let a = c.args in
    let t = (goal.at.returns c).After-is_ready in
    let paired : (pair_for a.accepted.request).refusal ≡ 0 = sym (ap (λ (p : Pair). p.refusal) c.in_ok-pair.ensures) in
    let bytes : List ℕ = c.of-wanted.result.bytes in
    accepts a.accepted.request a.image.now a.writes.now (sized t) (sym (tested t) ∙ c.if-not-is_ready.false) paired c.if-writes-lt256.false bytes c.of-wanted.ensures
    (subst (λ (i : List ℕ). Lists (λ b. get_or bytes b 0) i a.writes.now c.write_list.result c.write_list.new.writes) (same t) c.write_list.ensures)
