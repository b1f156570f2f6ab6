-- The conditions of a call gone through in order, which is what `Given` says of them. `Tests` has the laws for the calls.
-- Assumes nothing.
use mathlib.Core.Path.{◌≡◌, refl, sym, ◌∙◌}
use mathlib.Core.Logic.{◌≢◌, ◌⊎◌, inl, inr}
use mathlib.Core.Bool.{Bool, true, false}
use mathlib.Core.List.{List, [], ◌∷◌}
use Prim.Native.Nat.{ℕ, zero, suc, ◌<◌, suc-le-suc}
use native.Mathlib.Nat.{not-suc-le-zero, zero-lt-suc, le_of_suc-le-suc}
use native.Mathlib.Omega.{arith}
use lib.Dec.{eqb}
use lib.ListN.{length}
use borrow.Author.Tests.{eqb-true, eqb-false}
use Rattle.refusals.specs.Rows.{Row, input_ends, count_not_allowed, bytes_after, mode_not_offered, field_out_of_range, combination, number, order, in_order, Condition, at, First, Given}
use Rattle.refusals.specs.Rows.{image_length, holds_up, no_exact_pair, buffer_short, no_request, input_above, two_holds, list_length, bad_pair, bad_end, clock_above, not_finite, no_mode_fits, sound_too_much}

-- the conditions gone through in order
abbrev pub Tried : List Condition → ℕ → Type 0
Tried [] given = given ≡ 0
Tried (r ∷ rs) given = (r.When × (given ≡ number r.row)) ⊎ ((r.When → ⊥) × Tried rs given)

pub number_some : (r : Row) → number r ≢ 0
number_some input_ends = omega arith
number_some count_not_allowed = omega arith
number_some bytes_after = omega arith
number_some mode_not_offered = omega arith
number_some field_out_of_range = omega arith
number_some combination = omega arith
number_some image_length = omega arith
number_some holds_up = omega arith
number_some no_exact_pair = omega arith
number_some buffer_short = omega arith
number_some no_request = omega arith
number_some input_above = omega arith
number_some two_holds = omega arith
number_some list_length = omega arith
number_some bad_pair = omega arith
number_some bad_end = omega arith
number_some clock_above = omega arith
number_some not_finite = omega arith
number_some no_mode_fits = omega arith
number_some sound_too_much = omega arith

-- what fails at the first and at each of the others fails everywhere
shift : (r : Condition) (rs : List Condition) (n : ℕ) → (r.When → ⊥) → ((i : ℕ) → i < n → (at rs i).When → ⊥) → (i : ℕ) → i < suc n → (at (r ∷ rs) i).When → ⊥
shift r rs n x f zero h a = x a
shift r rs n x f (suc i) h a = f i (le_of_suc-le-suc h) a

first : (rules : List Condition) (given : ℕ) → Tried rules given → given ≢ 0 → First rules given
first [] given t n = absurd (n t)
first (r ∷ rs) given (inl h) n =
    record { place = 0; within = zero-lt-suc (length rs); numbered = h.1; applies = h.0; earlier = λ i l a. not-suc-le-zero l }
first (r ∷ rs) given (inr h) n =
    let e = first rs given h.1 n in
    record {
      place = suc e.place;
      within = omega (arith, e.within);
      numbered = e.numbered;
      applies = e.applies;
      earlier = shift r rs e.place h.0 e.earlier;
    }

none_applies : (rules : List Condition) (given : ℕ) → Tried rules given → given ≡ 0 → (i : ℕ) → i < length rules → (at rules i).When → ⊥
none_applies [] given t z = λ i h a. not-suc-le-zero h
none_applies (r ∷ rs) given (inl h) z = absurd (number_some r.row (sym h.1 ∙ z))
none_applies (r ∷ rs) given (inr h) z = shift r rs (length rs) h.0 (none_applies rs given h.1 z)

none_given : (rules : List Condition) (given : ℕ) → Tried rules given → ((i : ℕ) → i < length rules → (at rules i).When → ⊥) → given ≡ 0
none_given [] given t f = t
none_given (r ∷ rs) given (inl h) f = absurd (f 0 (zero-lt-suc (length rs)) h.0)
none_given (r ∷ rs) given (inr h) f = none_given rs given h.1 (λ i l. f (suc i) (omega arith))

pub tried : (rules : List Condition) (given : ℕ) → in_order rules order ≡ true → Tried rules given → Given rules given
tried rules given o t = record { ordered = o; some = first rules given t; none = (none_applies rules given t, none_given rules given t) }

-- and back
module _ (n : ℕ) where
  at_place : (rules : List Condition) (place : ℕ) → place < length rules → n ≡ number (at rules place).row → (at rules place).When
      → ((i : ℕ) → i < place → (at rules i).When → ⊥) → Tried rules n
  at_place [] place h e a f = absurd (not-suc-le-zero h)
  at_place (r ∷ rs) zero h e a f = inl (a, e)
  at_place (r ∷ rs) (suc place) h e a f =
      inr (f 0 (zero-lt-suc place), at_place rs place (le_of_suc-le-suc h) e a (λ i l. f (suc i) (suc-le-suc l)))

  at_none : (rules : List Condition) → n ≡ 0 → ((i : ℕ) → i < length rules → (at rules i).When → ⊥) → Tried rules n
  at_none [] z f = z
  at_none (r ∷ rs) z f = inr (f 0 (zero-lt-suc (length rs)), at_none rs z (λ i l. f (suc i) (suc-le-suc l)))

  pub again : (rules : List Condition) → Given rules n → Tried rules n
  again rules g = go (eqb n 0) refl
    where
      go : (b : Bool) → eqb n 0 ≡ b → Tried rules n
      go true e = let z = eqb-true n 0 e in at_none rules z (g.none.0 z)
      go false e = let f = g.some (eqb-false n 0 e) in at_place rules f.place f.within f.numbered f.applies f.earlier
