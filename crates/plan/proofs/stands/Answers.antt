-- `plan::stands` meets its contract. Assumes nothing.
use mathlib.Core.Path.{◌≡◌, sym, ap, ◌∙◌}
use Prim.Native.Nat.{ℕ}
use lib.ListN.{get_or}
use Rattle.clock.specs.Numbered.{Pair}
use Rattle.request.specs.Read.{allowed_of, pair_for}
use Rattle.refusals.proofs.Told.{refusal_some}
use Rattle.writes.specs.List.{stands_whole}
use Rattle.plan.specs.Wanted.{wanted}
use Rattle.plan.proofs.Stood.{not_stood, allowed_stands, is_refused, is_given}
use Rattle.plan.proofs.stands.Goals as goal
use Rattle.plan.proofs.stands.Goals.{Else-is_err}

allowed : (c : Else-is_err) → allowed_of c.args.r ≡ 0
allowed c = sym c.allowed.ensures ∙ is_given c.allowed.result (sym c.is_err.ensures.value ∙ c.if-is_err.false)

pub returns-then-is_err : goal.returns-then-is_err
returns-then-is_err c = let a = c.args in
    let some = is_refused c.allowed.result (sym c.is_err.ensures.value ∙ c.if-is_err.true) in
    sym (not_stood a.r a.image.now (λ s. some (c.allowed.ensures ∙ s.allowed)))

pub returns-then-image-ne256 : goal.returns-then-image-ne256
returns-then-image-ne256 c = let a = c.args in sym (not_stood a.r a.image.now (λ s. c.if-image-ne256.true s.sized))

pub returns-in_default : goal.returns-in_default
returns-in_default c = let a = c.args in
    let n = ap (λ (p : Pair). p.refusal) (rw c.in_default.is at c.pair.ensures) in
    sym (not_stood a.r a.image.now (λ s. refusal_some c.in_default.field-0 (n ∙ s.paired)))

pub returns : goal.returns
returns c = let a = c.args in
    let made : (λ b. get_or c.of-wanted.result.bytes b 0) ≡ wanted a.r = λ j b. c.of-wanted.ensures b j in
    let paired : (pair_for a.r).refusal ≡ 0 = sym (ap (λ (p : Pair). p.refusal) c.in-Ok.ensures) in
    c.stands.ensures ∙ ap (λ (want : ℕ → ℕ). stands_whole want a.image.now) made
    ∙ allowed_stands a.r a.image.now (allowed (goal.at.returns c).Else-is_err) paired
