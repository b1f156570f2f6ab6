-- The code's rows of the recommended pairs are the definition's, their clocks in lowest terms. Assumes nothing.
use mathlib.Core.Path.{◌≡◌, refl, sym}
use mathlib.Core.Logic.{◌≢◌}
use mathlib.Core.Bool.{Bool, true, false, cond, ◌&&◌}
use mathlib.Core.List.{List, [], ◌∷◌, map}
use Prim.Native.Nat.{ℕ, ◌*◌, ◌<◌, ◌∣◌}
use lib.Dec.{eqb, ltb}
use lib.ListN.{get_or}
use borrow.Author.Tests.{eqb-true, eqb-false, eq-eqb, ltb-true}
use Rattle.std.specs.Prelude.{Option, Some, unwrap_or, option_map, find}
use Rattle.lists.specs.Find.{every}
use Rattle.lists.proofs.Both.{both_left, both_right}
use Rattle.ratio.specs.Terms.{top_of, bottom_of}
use Rattle.ratio.proofs.Divisor.{in_lowest}
use Rattle.ratio.proofs.Unique.{only}
use Rattle.clock.specs.declared.Hertz.{Hertz}
use Rattle.clock.specs.declared.NCts.{NCts}
use Rattle.clock.specs.declared.Row.{Row}
use Rattle.clock.specs.Numbered.{Clock, clock_known}
use Rattle.clock.specs.Tables.{Recommended, recommended, pair}
use Rattle.clock.specs.Rows.{is_of}
use Rattle.clock.specs.Pairs.{recommended_in, recommended_of}

-- a clock in lowest terms is a row's exactly if its two numbers are the row's in lowest terms
module _ (clock : Clock) (l : (d : ℕ) → d ∣ clock.num → d ∣ clock.den → d ≡ 1) (num den : ℕ) (h : 0 < den) where
  pub same_clock : eqb (clock.num * den) (num * clock.den) ≡ (eqb clock.num (top_of num den) && eqb clock.den (bottom_of num den))
  same_clock = go (eqb (clock.num * den) (num * clock.den)) refl
    where
      both : (a b : Bool) → eqb clock.num (top_of num den) ≡ a → eqb clock.den (bottom_of num den) ≡ b → clock.num * den ≢ num * clock.den
          → false ≡ (a && b)
      both true true e f n =
          let p : clock.num ≡ top_of num den = eqb-true _ _ e in
          let q : clock.den ≡ bottom_of num den = eqb-true _ _ f in
          absurd (n (rw (p, q) (sym (in_lowest num den h).same)))
      both true false e f n = refl
      both false b e f n = refl

      go : (t : Bool) → eqb (clock.num * den) (num * clock.den) ≡ t → t ≡ (eqb clock.num (top_of num den) && eqb clock.den (bottom_of num den))
      go true e =
          let w = only num den clock.num clock.den h (record { same = sym (eqb-true _ _ e); lowest = l }) in
          rw (eq-eqb _ _ w.0, eq-eqb _ _ w.1)
      go false e = both _ _ refl refl (eqb-false _ _ e)

-- a row as the code has it, and the pair in it
abbrev pub in_terms : Recommended → Row
in_terms r = record { clock = record { num = top_of r.num r.den; den = bottom_of r.num r.den }; n = r.n; cts = r.cts }

abbrev pub pair_in : ℕ → Row → NCts
pair_in rate row = pair (get_or row.n rate 0) (get_or row.cts rate 0)

abbrev has_bottom : Recommended → Bool
has_bottom r = ltb 0 r.den

all_bottoms : every has_bottom recommended ≡ true
all_bottoms = refl

module _ (clock : Hertz) (l : (d : ℕ) → d ∣ clock.num → d ∣ clock.den → d ≡ 1) (rate : ℕ) where
  either : (b : Bool) (row : Row) (o : Option Row) (rest : NCts) → unwrap_or (option_map (pair_in rate) o) (pair 0 0) ≡ rest
      → unwrap_or (option_map (pair_in rate) (cond b (Some row) o)) (pair 0 0) ≡ cond b (pair_in rate row) rest
  either true row o rest e = refl
  either false row o rest e = e

  -- of any rows: the first whose clock it is
  looked_up : (rows : List Recommended) → every has_bottom rows ≡ true
      → unwrap_or (option_map (pair_in rate) (find (is_of clock) (map in_terms rows))) (pair 0 0) ≡ recommended_in rows (clock_known clock) rate
  looked_up [] e = refl
  looked_up (r ∷ rs) e =
      rw (same_clock (clock_known clock) l r.num r.den (ltb-true _ _ (both_left (has_bottom r) _ e)))
      (either (is_of clock (in_terms r)) (in_terms r) _ _ (looked_up rs (both_right (has_bottom r) _ e)))

  pub the_recommended : unwrap_or (option_map (pair_in rate) (find (is_of clock) (map in_terms recommended))) (pair 0 0) ≡ recommended_of (clock_known clock) rate
  unfolding recommended_of
  the_recommended = looked_up recommended all_bottoms
