-- Of a call that gives the first of its tests in the order of request 12: what `GivenFirst` says. As First and Tests of `refusals` have it for the
-- landed rows. Assumes nothing.
use mathlib.Core.Path.{◌≡◌, refl, sym, ◌∙◌}
use mathlib.Core.Logic.{◌≢◌, ◌⊎◌, inl, inr}
use mathlib.Core.Bool.{Bool, true, false, cond}
use mathlib.Core.List.{List, [], ◌∷◌}
use Prim.Native.Nat.{ℕ, zero, suc, ◌<◌}
use native.Mathlib.Nat.{not-suc-le-zero, zero-lt-suc, le_of_suc-le-suc}
use native.Mathlib.Omega.{arith}
use lib.ListN.{length, get_or}
use Rattle.lists.proofs.Decides.{Decides}
use Rattle.refusals.specs.Tests.{answer}
use Rattle.refusals.proofs.Tests.{numbered}
use Rattle.edid.specs.Order.{ScreenRow, edid_length, screen_number, screen_order, ScreenCondition, screen_numbers, some_in_order, screen_at, FirstScreen, GivenFirst}
use Rattle.edid.specs.Found.{lowest_row}

-- the conditions gone through in order
abbrev Tried : List ScreenCondition → ℕ → Type 0
Tried [] given = given ≡ 0
Tried (r ∷ rs) given = (r.When × (given ≡ screen_number r.row)) ⊎ ((r.When → ⊥) × Tried rs given)

number_some : (r : ScreenRow) → screen_number r ≢ 0
number_some r h = grind arith

-- what fails at the first and at each of the others fails everywhere
shift : (r : ScreenCondition) (rs : List ScreenCondition) (n : ℕ) → (r.When → ⊥) → ((i : ℕ) → i < n → (screen_at rs i).When → ⊥) → (i : ℕ) → i < suc n → (screen_at (r ∷ rs) i).When → ⊥
shift r rs n x f zero h a = x a
shift r rs n x f (suc i) h a = f i (le_of_suc-le-suc h) a

first : (rules : List ScreenCondition) (given : ℕ) → Tried rules given → given ≢ 0 → FirstScreen rules given
first [] given t n = absurd (n t)
first (r ∷ rs) given (inl h) n =
    record { place = 0; within = zero-lt-suc (length rs); numbered = h.1; applies = h.0; earlier = λ i l a. not-suc-le-zero l }
first (r ∷ rs) given (inr h) n =
    let e = first rs given h.1 n in
    record {
      place = suc e.place;
      within = omega (arith, e.within);
      numbered = e.numbered;
      applies = e.applies;
      earlier = shift r rs e.place h.0 e.earlier;
    }

none_applies : (rules : List ScreenCondition) (given : ℕ) → Tried rules given → given ≡ 0 → (i : ℕ) → i < length rules → (screen_at rules i).When → ⊥
none_applies [] given t z = λ i h a. not-suc-le-zero h
none_applies (r ∷ rs) given (inl h) z = absurd (number_some r.row (sym h.1 ∙ z))
none_applies (r ∷ rs) given (inr h) z = shift r rs (length rs) h.0 (none_applies rs given h.1 z)

none_given : (rules : List ScreenCondition) (given : ℕ) → Tried rules given → ((i : ℕ) → i < length rules → (screen_at rules i).When → ⊥) → given ≡ 0
none_given [] given t f = t
none_given (r ∷ rs) given (inl h) f = absurd (f 0 (zero-lt-suc (length rs)) h.0)
none_given (r ∷ rs) given (inr h) f = none_given rs given h.1 (λ i l. f (suc i) (omega arith))

-- tests that decide conditions, each where none before it applies
abbrev pub Decided : List (ScreenRow × Bool) → List ScreenCondition → Type 0
Decided [] [] = Unit {0}
Decided [] (c ∷ cs) = ⊥
Decided (t ∷ ts) [] = ⊥
Decided (t ∷ ts) (c ∷ cs) = (t.0 ≡ c.row) × Decides t.1 c.When × (t.1 ≡ false → Decided ts cs)

in_turn : (tests : List (ScreenRow × Bool)) (rules : List ScreenCondition) → Decided tests rules → Tried rules (lowest_row tests)
in_turn [] [] d = refl
in_turn [] (c ∷ cs) d = absurd d
in_turn (t ∷ ts) [] d = absurd d
in_turn (t ∷ ts) (c ∷ cs) d = go t.1 refl (λ e. in_turn ts cs (d.2 e))
  where
    go : (b : Bool) → t.1 ≡ b → (t.1 ≡ false → Tried cs (lowest_row ts)) → Tried (c ∷ cs) (cond b (screen_number t.0) (lowest_row ts))
    go true e more = inl (d.1.passes e, rw d.0)
    go false e more = inr (d.1.fails e, more e)

pub lowest_first : (tests : List (ScreenRow × Bool)) (rules : List ScreenCondition) → some_in_order (screen_numbers rules) screen_order ≡ true → Decided tests rules
    → GivenFirst rules (lowest_row tests)
lowest_first tests rules o d =
    let t = in_turn tests rules d in
    record { ordered = o; some = first rules (lowest_row tests) t; none = (none_applies rules (lowest_row tests) t, none_given rules (lowest_row tests) t) }

-- past a test where nothing is given
past : (t : ScreenRow × Bool) (ts : List (ScreenRow × Bool)) → lowest_row (t ∷ ts) ≡ 0 → (t.1 ≡ false) × (lowest_row ts ≡ 0)
past t ts z = let k = number_some t.0 in (grind arith, grind arith)

-- each test is false where nothing is given; past the end there is none that is true
pub none_at : (ts : List (ScreenRow × Bool)) (i : ℕ) → lowest_row ts ≡ 0 → (get_or ts i (edid_length, false)).1 ≡ false
none_at [] i z = refl
none_at (t ∷ ts) zero z = (past t ts z).0
none_at (t ∷ ts) (suc i) z = none_at ts i (past t ts z).1

module _ {X : Type 0} (refused : ℕ → X) (x : X) where
  pub answer_first : (f : X → ℕ) (rules : List ScreenCondition) (n : ℕ) → f (refused n) ≡ n → (n ≡ 0 → f x ≡ 0) → GivenFirst rules n
      → GivenFirst rules (f (answer n refused x))
  answer_first f rules n same none g = rw (numbered refused x f n none same) g
