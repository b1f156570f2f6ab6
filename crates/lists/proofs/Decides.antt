-- A test and the statement that it decides. A test made of tests decides the statement made of theirs. Assumes nothing.
use mathlib.Core.Path.{◌≡◌, refl, sym, ◌∙◌}
use mathlib.Core.Logic.{◌≢◌, ◌⊎◌, inl, inr, ⊎_elim}
use mathlib.Core.Bool.{Bool, true, false, false≢true, not, ◌&&◌, ◌||◌}
use Prim.Native.Nat.{ℕ, ◌<◌, ◌≤◌}
use native.Mathlib.Omega.{arith}
use lib.Dec.{eqb, ltb}
use borrow.Author.Tests.{eqb-true, eqb-false, ltb-true, ltb-false, not-true, not-false}

pub record Decides (b : Bool) (P : Type 0) : Type 0 where
  pub passes : b ≡ true → P
  pub fails : b ≡ false → P → ⊥

pub itself : (b : Bool) → Decides b (b ≡ true)
itself b = record { passes = λ t. t; fails = λ f t. false≢true (sym f ∙ t) }

pub failing : (b : Bool) → Decides (not b) (b ≡ false)
failing b = record { passes = not-true b; fails = λ n f. false≢true (sym f ∙ not-false b n) }

pub equal : (m n : ℕ) → Decides (eqb m n) (m ≡ n)
equal m n = record { passes = eqb-true m n; fails = eqb-false m n }

pub less : (m n : ℕ) → Decides (ltb m n) (m < n)
less m n = record { passes = ltb-true m n; fails = λ f h. omega (arith, ltb-false m n f) }

pub opposite : {b : Bool} {P : Type 0} → Decides b P → Decides (not b) (P → ⊥)
opposite {b} {P} d = go b d
  where
    go : (b : Bool) → Decides b P → Decides (not b) (P → ⊥)
    go true d = record { passes = λ t. absurd (false≢true t); fails = λ f n. n (d.passes refl) }
    go false d = record { passes = λ t. d.fails refl; fails = λ f. absurd (false≢true (sym f)) }

pub either : {a b : Bool} {P Q : Type 0} → Decides a P → Decides b Q → Decides (a || b) (P ⊎ Q)
either {a} {b} {P} {Q} d e = go a d
  where
    go : (a : Bool) → Decides a P → Decides (a || b) (P ⊎ Q)
    go true d = record { passes = λ t. inl (d.passes refl); fails = λ f. absurd (false≢true (sym f)) }
    go false d = record { passes = λ t. inr (e.passes t); fails = λ f. ⊎_elim (d.fails refl) (e.fails f) }

pub together : {a b : Bool} {P Q : Type 0} → Decides a P → Decides b Q → Decides (a && b) (P × Q)
together {a} {b} {P} {Q} d e = go a d
  where
    go : (a : Bool) → Decides a P → Decides (a && b) (P × Q)
    go true d = record { passes = λ t. (d.passes refl, e.passes t); fails = λ f h. e.fails f h.1 }
    go false d = record { passes = λ t. absurd (false≢true t); fails = λ f h. d.fails refl h.0 }

-- of two tests one fails
pub one_fails : (s t : Bool) {P Q : Type 0} → Decides (not s) P → Decides (not t) Q → Decides (not (s && t)) (P ⊎ Q)
one_fails s t {P} {Q} d e = go s d
  where
    go : (s : Bool) → Decides (not s) P → Decides (not (s && t)) (P ⊎ Q)
    go true d = record { passes = λ x. inr (e.passes x); fails = λ x. ⊎_elim (d.fails refl) (e.fails x) }
    go false d = record { passes = λ x. inl (d.passes refl); fails = λ x. absurd (false≢true (sym x)) }

-- the same test for a statement that says the same
pub restated : {b : Bool} {P Q : Type 0} → (P → Q) → (Q → P) → Decides b P → Decides b Q
restated to from d = record { passes = λ t. to (d.passes t); fails = λ f q. d.fails f (from q) }

-- the test of a statement that does not hold fails
pub refuted : {b : Bool} {P : Type 0} → Decides b P → (P → ⊥) → b ≡ false
refuted {b} {P} d n = go b d
  where
    go : (b : Bool) → Decides b P → b ≡ false
    go true d = absurd (n (d.passes refl))
    go false d = refl

-- and that of one that holds passes
pub confirmed : {b : Bool} {P : Type 0} → Decides b P → P → b ≡ true
confirmed {b} {P} d p = go b d
  where
    go : (b : Bool) → Decides b P → b ≡ true
    go true d = refl
    go false d = absurd (d.fails refl p)

-- not above is at most; not different is equal
pub at_most : (m n : ℕ) → (m < n → ⊥) → n ≤ m
at_most m n h = go (ltb m n) refl
  where
    go : (b : Bool) → ltb m n ≡ b → n ≤ m
    go true e = absurd (h (ltb-true m n e))
    go false e = ltb-false m n e

pub is_equal : (m n : ℕ) → (m ≢ n → ⊥) → m ≡ n
is_equal m n h = go (eqb m n) refl
  where
    go : (b : Bool) → eqb m n ≡ b → m ≡ n
    go true e = eqb-true m n e
    go false e = absurd (h (eqb-false m n e))
