-- `edid::Collection::word` meets its contract: from the last question to the first. Assumes nothing.
use mathlib.Core.Path.{◌≡◌, ap, ◌∙◌}
use mathlib.Core.Bool.{Bool, cond}
use Prim.Native.Nat.{ℕ, ◌-◌, ◌*◌, ◌+◌}
use native.Mathlib.Omega.{arith}
use borrow.Author.Rules.{rules}
use Rattle.edid.specs.Screen.{tells}
use Rattle.edid.proofs.Words.{more, room}
use Rattle.edid.proofs.Collection.word.Goals as goal

pub loop-n-preserved : goal.loop-n-preserved
loop-n-preserved g c = let a = c.args in
    let l = c.loop-n in
    let b : c.from.result ≡ cond c.is_told.result 1 0 = search rules in (
      omega arith,
      room l.n a.to l.word c.from.result (omega arith) (omega arith) l.invariant.1 (search rules),
      λ asks t.
          let f : ℕ → Bool = λ (n : ℕ). tells a.self.now.bytes.now (asks n) in
          let q = t (l.n - 1) c.question.result (omega arith) c.question.ensures in
          let e : c.is_told.result ≡ f (l.n - 1) = c.is_told.ensures ∙ ap (tells a.self.now.bytes.now) q in
          ap (λ (k : ℕ). 2 * l.word + k) (b ∙ ap (λ (t : Bool). cond t 1 0) e) ∙ more f l.n a.to l.word (omega arith) (omega arith) (l.invariant.2 asks t),
    )

pub returns-clause-bits : goal.returns-clause-bits
returns-clause-bits g c = λ asks t. let e : c.loop-n.n ≡ c.args.from = omega arith in rw e at (c.loop-n.invariant.2 asks t)
