-- What an answer says in numbers: a refusal has one, which is not 0; and what is answered where a call before it refuses, or does not. Assumes nothing.
use mathlib.Core.Path.{◌≡◌, sym}
use mathlib.Core.Logic.{◌≢◌}
use Prim.Native.Nat.{ℕ}
use native.Mathlib.Omega.{arith}
use Rattle.refusals.specs.declared.Refusal.{Refusal}
use Rattle.refusals.specs.Numbered.{refusal_number}
use Rattle.refusals.specs.Tests.{answer}
use Rattle.refusals.proofs.Tests.{answer_none, answer_some}

pub refusal_some : (e : Refusal) → refusal_number e ≢ 0
refusal_some e h = grind arith

module _ {X : Type 0} (refused : ℕ → X) (x : X) (n : ℕ) where
  pub by_refusal : (e : Refusal) → refusal_number e ≡ n → refused (refusal_number e) ≡ answer n refused x
  by_refusal e h = rw (← h) (sym (answer_some refused x (refusal_number e) (refusal_some e)))

  pub by_none : 0 ≡ n → x ≡ answer n refused x
  by_none h = sym (answer_none refused x n (sym h))
