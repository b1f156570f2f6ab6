-- One law for every call that gives the lowest of its tests: where they decide its conditions one by one, that is what `Given` says.
--     Decided         tests that decide conditions, each where none before it applies
--     lowest_given    the law
--     answer_given    of the number that a call's answer carries; answer-beside: what stands beside a refusal
--     in_stages       of a call in two stages, each with conditions of its own; none-in-stages: where it gives none, neither stage does
--     without, later, sole, reworded    past a condition that fails, anywhere and at the front; one condition alone, and in other words
--     none_at         each test is false where none is given
--     numbered, answer_none, answer_some    the number that an answer carries, and the answer by its number
-- Assumes nothing.
use mathlib.Core.Path.{◌≡◌, refl, sym, ◌∙◌}
use mathlib.Core.Logic.{◌≢◌, inl, inr}
use mathlib.Core.Bool.{Bool, true, false, cond, not}
use mathlib.Core.List.{List, [], ◌∷◌, ◌++◌}
use Prim.Native.Nat.{ℕ, zero, suc}
use lib.Dec.{eqb}
use lib.ListN.{get_or}
use borrow.Author.Tests.{eqb-true, eqb-false, eq-eqb, ne_eqb, not-true, not-false}
use Rattle.lists.proofs.Decides.{Decides}
use Rattle.refusals.specs.Rows.{Row, input_ends, number, order, in_order, Condition, ◌when◌, Given}
use Rattle.refusals.specs.Tests.{Test, ◌if◌, lowest, answer}
use Rattle.refusals.proofs.First.{Tried, tried, again, number_some}

abbrev pub Decided : List Test → List Condition → Type 0
Decided [] [] = Unit {0}
Decided [] (c ∷ cs) = ⊥
Decided (t ∷ ts) [] = ⊥
Decided (t ∷ ts) (c ∷ cs) = (t.row ≡ c.row) × Decides t.found c.When × (t.found ≡ false → Decided ts cs)

in_turn_lem : (tests : List Test) (rules : List Condition) → Decided tests rules → Tried rules (lowest tests)
in_turn_lem [] [] d = refl
in_turn_lem [] (c ∷ cs) d = absurd d
in_turn_lem (t ∷ ts) [] d = absurd d
in_turn_lem (t ∷ ts) (c ∷ cs) d = go t.found refl (λ e. in_turn_lem ts cs (d.2 e))
  where
    go : (b : Bool) → t.found ≡ b → (t.found ≡ false → Tried cs (lowest ts)) → Tried (c ∷ cs) (cond b (number t.row) (lowest ts))
    go true e more = inl (d.1.passes e, rw d.0)
    go false e more = inr (d.1.fails e, more e)

pub lowest_given : (tests : List Test) (rules : List Condition) → in_order rules order ≡ true → Decided tests rules → Given rules (lowest tests)
lowest_given tests rules o d = tried rules (lowest tests) o (in_turn_lem tests rules d)

-- past a test where nothing is given
past : (t : Test) (ts : List Test) → lowest (t ∷ ts) ≡ 0 → (t.found ≡ false) × (lowest ts ≡ 0)
past t ts = go t.found refl
  where
    go : (b : Bool) → t.found ≡ b → cond b (number t.row) (lowest ts) ≡ 0 → (t.found ≡ false) × (lowest ts ≡ 0)
    go true e z = absurd (number_some t.row z)
    go false e z = (e, z)

-- each test is false where nothing is given; past the end there is none that is true
pub none_at : (ts : List Test) (i : ℕ) → lowest ts ≡ 0 → (get_or ts i (input_ends if false)).found ≡ false
none_at [] i z = refl
none_at (t ∷ ts) zero z = (past t ts z).0
none_at (t ∷ ts) (suc i) z = none_at ts i (past t ts z).1

-- where a condition fails, the others are left; and so past the first
pub without : (bs : List Condition) (c : Condition) (cs : List Condition) (n : ℕ) → Given (bs ++ c ∷ cs) n → in_order (bs ++ cs) order ≡ true
    → (c.When → ⊥) → Given (bs ++ cs) n
without bs c cs n g o x = tried (bs ++ cs) n o (go bs (again n (bs ++ c ∷ cs) g))
  where
    go : (bs : List Condition) → Tried (bs ++ c ∷ cs) n → Tried (bs ++ cs) n
    go [] (inl h) = absurd (x h.0)
    go [] (inr h) = h.1
    go (b ∷ bs) (inl h) = inl h
    go (b ∷ bs) (inr h) = inr (h.0, go bs h.1)

pub later : (c : Condition) (cs : List Condition) (n : ℕ) → Given (c ∷ cs) n → in_order cs order ≡ true → (c.When → ⊥) → Given cs n
later = without []

-- of one condition: what is given says whether it applies, and another condition that says the same may stand for it
pub sole : (c : Condition) (n : ℕ) → Given (c ∷ []) n → Decides (not (eqb n 0)) c.When
sole c n g = go (again n (c ∷ []) g)
  where
    go : Tried (c ∷ []) n → Decides (not (eqb n 0)) c.When
    go (inl h) =
        record { passes = λ t. h.0; fails = λ f. absurd (number_some c.row (sym h.1 ∙ eqb-true n 0 (not-false (eqb n 0) f))) }
    go (inr h) = record { passes = λ t. absurd (eqb-false n 0 (not-true (eqb n 0) t) h.1); fails = λ f. h.0 }

pub reworded : (row : Row) (P Q : Type 0) (n : ℕ) → (P → Q) → (Q → P) → Given (row when P ∷ []) n → Given (row when Q ∷ []) n
reworded row P Q n to from g = tried (row when Q ∷ []) n g.ordered (go (again n (row when P ∷ []) g))
  where
    go : Tried (row when P ∷ []) n → Tried (row when Q ∷ []) n
    go (inl h) = inl (to h.0, h.1)
    go (inr h) = inr ((λ q. h.0 (from q)), h.1)

module _ {X : Type 0} (refused : ℕ → X) (x : X) where
  -- the number that an answer carries is the number given; f reads it off
  pub numbered : (f : X → ℕ) (n : ℕ) → (n ≡ 0 → f x ≡ 0) → f (refused n) ≡ n → f (answer n refused x) ≡ n
  numbered f n p q = go (eqb n 0) refl
    where
      go : (b : Bool) → eqb n 0 ≡ b → f (cond b x (refused n)) ≡ n
      go true e = let z = eqb-true n 0 e in p z ∙ sym z
      go false e = q

  -- of a call in one stage: what it gives, and what stands beside a refusal
  pub answer_given : (f : X → ℕ) (rules : List Condition) (n : ℕ) → f (refused n) ≡ n → (n ≡ 0 → f x ≡ 0) → Given rules n
      → Given rules (f (answer n refused x))
  answer_given f rules n same none g = rw (numbered f n none same) g

  pub answer_beside : (f : X → ℕ) (n : ℕ) → (n ≡ 0 → f x ≡ 0) → f (answer n refused x) ≢ 0 → answer n refused x ≡ refused n
  answer_beside f n none = go (eqb n 0) refl
    where
      go : (b : Bool) → eqb n 0 ≡ b → f (cond b x (refused n)) ≢ 0 → cond b x (refused n) ≡ refused n
      go true e h = absurd (h (none (eqb-true n 0 e)))
      go false e h = refl

  -- a call in two stages: some conditions, and then others where none of the first applies
  pub in_stages : (f : X → ℕ) (rules more : List Condition) (n : ℕ) → in_order (rules ++ more) order ≡ true → f (refused n) ≡ n
      → Given rules n → (n ≡ 0 → Given more (f x)) → Given (rules ++ more) (f (answer n refused x))
  in_stages f rules more n o same g then = tried (rules ++ more) (f (answer n refused x)) o (go rules (again n rules g))
    where
      go : (rules : List Condition) → Tried rules n → Tried (rules ++ more) (f (answer n refused x))
      go [] t = rw (eq-eqb n 0 t) (again (f x) more (then t))
      go (c ∷ cs) (inl h) = inl (h.0, rw (ne_eqb n 0 (λ e. number_some c.row (sym h.1 ∙ e))) (same ∙ h.1))
      go (c ∷ cs) (inr h) = inr (h.0, go cs h.1)

  pub none_in_stages : (f : X → ℕ) (n : ℕ) → f (refused n) ≡ n → f (answer n refused x) ≡ 0 → (n ≡ 0) × (f x ≡ 0)
  none_in_stages f n same = go (eqb n 0) refl
    where
      go : (b : Bool) → eqb n 0 ≡ b → f (cond b x (refused n)) ≡ 0 → (n ≡ 0) × (f x ≡ 0)
      go true e z = (eqb-true n 0 e, z)
      go false e z = absurd (eqb-false n 0 e (sym same ∙ z))

  pub answer_none : (n : ℕ) → n ≡ 0 → answer n refused x ≡ x
  answer_none n e = rw (eq-eqb n 0 e)

  pub answer_some : (n : ℕ) → n ≢ 0 → answer n refused x ≡ refused n
  answer_some n h = rw (ne_eqb n 0 h)
