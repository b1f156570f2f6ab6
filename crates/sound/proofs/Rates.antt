-- The table of the rates: each code is small, and reads back as its rate; the search in the code's table. Assumes nothing.
use mathlib.Core.Path.{◌≡◌, refl, sym}
use mathlib.Core.Bool.{Bool, true, false, cond, not}
use mathlib.Core.List.{List, [], ◌∷◌, map}
use Prim.Native.Nat.{ℕ, zero, suc, ◌+◌, ◌<◌, ◌≤◌}
use native.Mathlib.Nat.{not-suc-le-zero, le_of_suc-le-suc}
use native.Mathlib.Omega.{arith}
use lib.Dec.{eqb, ltb}
use lib.ListN.{length, get_or}
use borrow.Author.Tests.{eqb-true, ltb-true, ltb-false}
use Rattle.std.specs.List.{position_or_len}
use Rattle.std.specs.Option.{unwrap_or}
use Rattle.std.specs.Prelude.{Option, Some, None}
use Rattle.lists.proofs.Find.{every_or}
use Rattle.bits.proofs.Below.{at_below}
use Rattle.sound.specs.declared.Rate.{Rate}
use Rattle.sound.specs.Rates.{rates, code_for}
use Rattle.sound.specs.Coded.{rate_place, rate_of}
use Rattle.sound.specs.Theorems.{RateTable}

-- a column of the table, and 0 past its end
pub column : (f : ℕ × ℕ → ℕ) → f (0, 0) ≡ 0 → (rs : List (ℕ × ℕ)) (n : ℕ) → get_or (map f rs) n 0 ≡ f (get_or rs n (0, 0))
column f z [] n = sym z
column f z (r ∷ rs) zero = refl
column f z (r ∷ rs) (suc n) = column f z rs n

-- the place of a code is the first row of it in the code's table
abbrev pub row : ℕ × ℕ → Rate
row r = record { hertz = r.0; code = r.1 }

placed : (code : ℕ) (rs : List (ℕ × ℕ)) → position_or_len (λ (r : Rate). eqb r.code code) (map row rs) ≡ rate_place code rs
placed code [] = refl
placed code (r ∷ rs) = go (eqb r.1 code) (placed code rs)
  where
    go : (b : Bool) → position_or_len (λ (r : Rate). eqb r.code code) (map row rs) ≡ rate_place code rs
        → cond (not b) (1 + position_or_len (λ (r : Rate). eqb r.code code) (map row rs)) 0 ≡ cond b 0 (suc (rate_place code rs))
    go true e = refl
    go false e = omega (arith, e)

within : (code : ℕ) (rs : List (ℕ × ℕ)) → rate_place code rs ≤ length rs
within code [] = omega arith
within code (r ∷ rs) = go (eqb r.1 code) (within code rs)
  where
    go : (b : Bool) → rate_place code rs ≤ length rs → cond b 0 (suc (rate_place code rs)) ≤ suc (length rs)
    go true h = omega arith
    go false h = omega (arith, h)

-- where a search says so
or_length : (n m : ℕ) → n ≤ m → unwrap_or (cond (ltb n m) (Some n) None) m ≡ n
or_length n m h = go (ltb n m) refl
  where
    go : (b : Bool) → ltb n m ≡ b → unwrap_or (cond b (Some n) None) m ≡ n
    go true e = refl
    go false e = omega (arith, h, ltb-false n m e)

pub searched : (code : ℕ) (place : Option ℕ)
    → place ≡ (let n = position_or_len (λ (r : Rate). eqb r.code code) (map row rates) in cond (ltb n 7) (Some n) None)
    → unwrap_or place 7 ≡ rate_of code
unfolding rate_of
searched code place e = rw (e, placed code rates) (or_length (rate_place code rates) 7 (within code rates))

-- what is found in a row has its code
found : (code : ℕ) (rs : List (ℕ × ℕ)) → rate_place code rs < length rs → (get_or rs (rate_place code rs) (0, 0)).1 ≡ code
found code [] h = absurd (not-suc-le-zero h)
found code (r ∷ rs) h = go (eqb r.1 code) refl (found code rs) h
  where
    go : (b : Bool) → eqb r.1 code ≡ b → (rate_place code rs < length rs → (get_or rs (rate_place code rs) (0, 0)).1 ≡ code)
        → cond b 0 (suc (rate_place code rs)) < suc (length rs) → (get_or (r ∷ rs) (cond b 0 (suc (rate_place code rs))) (0, 0)).1 ≡ code
    go true e ih h = eqb-true _ _ e
    go false e ih h = ih (le_of_suc-le-suc h)

pub table : RateTable
unfolding rate_of
table =
    record {
      bits = λ n. ltb-true _ _ (every_or (λ r. ltb r.1 16) rates (0, 0) refl refl n);
      back = λ n h. eqb-true _ _ (at_below (λ n. eqb (rate_of (code_for n)) n) (length rates) n refl h);
      only = λ code. found code rates;
    }
