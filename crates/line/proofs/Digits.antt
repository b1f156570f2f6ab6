-- A number in decimal, digit by digit. Assumes nothing.
--     small, large   what a number below ten is, and one from ten on
--     short          how many digits a number has at most
--     numerals       a number's digits say it
use mathlib.Core.Path.{◌≡◌, refl, sym, ap, ◌∙◌}
use mathlib.Core.Bool.{Bool, true, false, cond}
use mathlib.Core.List.{List, [], ◌∷◌, ◌++◌, map}
use Prim.Native.Nat.{ℕ, zero, suc, ◌+◌, ◌*◌, ◌/◌, ◌%◌, ◌^◌, ◌<◌, ◌≤◌}
use native.Mathlib.Nat.{pow-suc, not-suc-le-zero}
use native.Mathlib.Omega.{arith}
use lib.Dec.{ltb}
use lib.ListN.{length, get_or, length-append}
use borrow.Author.Tests.{lt-ltb, le-ltb, ltb-true, ltb-false}
use Rattle.line.specs.Words.{digit, digits, decimal, said, Numeral}

-- more room changes nothing
enough : (f g n : ℕ) → n < f → n < g → digits f n ≡ digits g n
unfolding digits
enough zero g n h k = absurd (not-suc-le-zero h)
enough (suc f) zero n h k = absurd (not-suc-le-zero k)
enough (suc f) (suc g) n h k = go (ltb n 10) refl (enough f g (n / 10))
  where
    go : (b : Bool) → ltb n 10 ≡ b → (n / 10 < f → n / 10 < g → digits f (n / 10) ≡ digits g (n / 10))
        → cond b (digit n ∷ []) (digits f (n / 10) ++ (digit (n % 10) ∷ [])) ≡ cond b (digit n ∷ []) (digits g (n / 10) ++ (digit (n % 10) ∷ []))
    go true e ih = refl
    go false e ih = let l : 10 ≤ n = ltb-false n 10 e in rw (ih (omega arith) (omega arith))

pub small : (n : ℕ) → n < 10 → decimal n ≡ digit n ∷ []
unfolding digits
small n h = rw (lt-ltb n 10 h)

pub large : (n : ℕ) → 10 ≤ n → decimal n ≡ decimal (n / 10) ++ (digit (n % 10) ∷ [])
unfolding digits
large n h = rw (le-ltb n 10 h, enough n (suc (n / 10)) (n / 10) (omega arith) (omega arith))

pub small_length : (n : ℕ) → n < 10 → length (decimal n) ≡ 1
small_length n h = ap length (small n h)

pub large_length : (n : ℕ) → 10 ≤ n → length (decimal n) ≡ length (decimal (n / 10)) + 1
large_length n h = ap length (large n h) ∙ length-append (decimal (n / 10)) (digit (n % 10) ∷ [])

pub short : (k n : ℕ) → n < 10 ^ suc k → length (decimal n) ≤ suc k
short zero n h = rw (small n (omega arith)) (omega arith)
short (suc k) n h = go (ltb n 10) refl (short k (n / 10))
  where
    go : (b : Bool) → ltb n 10 ≡ b → (n / 10 < 10 ^ suc k → length (decimal (n / 10)) ≤ suc k) → length (decimal n) ≤ suc (suc k)
    go true e ih = rw (small n (ltb-true n 10 e)) (omega arith)
    go false e ih =
        let s : n / 10 < 10 ^ suc k = omega (arith, pow-suc 10 (suc k)) in
        rw (large n (ltb-false n 10 e), length-append) (omega (arith, ih s))

-- a number of 32 bits has at most ten digits
pub ten : (n : ℕ) → n < 2 ^ 32 → length (decimal n) ≤ 10
ten n h = short 9 n (omega arith)

said_append : (n : ℕ) (ds es : List ℕ) → said n (ds ++ es) ≡ said (said n ds) es
said_append n [] es = refl
said_append n (d ∷ ds) es = said_append (n * 10 + d) ds es

map_append : (ds es : List ℕ) → map digit (ds ++ es) ≡ map digit ds ++ map digit es
map_append [] es = refl
map_append (d ∷ ds) es = ap (λ (l : List ℕ). digit d ∷ l) (map_append ds es)

-- what the first element of a list with another after it is, and every one
first : (ds es : List ℕ) → 0 < length ds → get_or (ds ++ es) 0 0 ≡ get_or ds 0 0
first [] es h = absurd (not-suc-le-zero h)
first (d ∷ ds) es h = refl

one_more : (ds : List ℕ) (d : ℕ) → d < 10 → ((i : ℕ) → get_or ds i 0 < 10) → (i : ℕ) → get_or (ds ++ (d ∷ [])) i 0 < 10
one_more [] d h f zero = h
one_more [] d h f (suc i) = f 0
one_more (x ∷ ds) d h f zero = f 0
one_more (x ∷ ds) d h f (suc i) = one_more ds d h (λ j. f (suc j)) i

only : (n : ℕ) → n < 10 → (i : ℕ) → get_or (n ∷ []) i 0 < 10
only n h zero = h
only n h (suc i) = omega arith

by_room : (room n : ℕ) → n < room → Numeral n
by_room zero n h = absurd (not-suc-le-zero h)
by_room (suc room) n h = go (ltb n 10) refl (by_room room (n / 10))
  where
    go : (b : Bool) → ltb n 10 ≡ b → (n / 10 < room → Numeral (n / 10)) → Numeral n
    go true e ih =
        let l : n < 10 = ltb-true n 10 e in
        record { values = n ∷ []; written = small n l; each = only n l; read = omega arith; some = omega arith; plain = λ z. z }
    go false e ih =
        let l : 10 ≤ n = ltb-false n 10 e in
        let r : Numeral (n / 10) = ih (omega arith) in
        record {
          values = r.values ++ (n % 10 ∷ []);
          written = large n l ∙ rw r.written (sym (map_append r.values (n % 10 ∷ [])));
          each = one_more r.values (n % 10) (omega arith) r.each;
          read = said_append 0 r.values (n % 10 ∷ []) ∙ rw r.read (omega arith);
          some = rw (length-append r.values (n % 10 ∷ [])) (omega (arith, r.some));
          plain = λ z. absurd (omega (arith, r.plain (sym (first r.values (n % 10 ∷ []) r.some) ∙ z)));
        }

pub numerals : (n : ℕ) → Numeral n
numerals n = by_room (suc n) n (omega arith)
