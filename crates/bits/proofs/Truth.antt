-- A law of masks, proved by a truth table. An expression over some numbers, made of merges, has at each digit the value that it has at the
-- operands' digits. So where two expressions agree at every choice of digits 0 and 1, which antt computes, they agree at all numbers.
--     num k e ρ       the number that e says at the numbers ρ, at k digits
--     law             two expressions that agree at every choice of digits are equal
--     law_if          the same, where further expressions are 0
-- No number need be below 2 ^ k: a merge sees k digits of each. Assumes nothing.
use mathlib.Core.Path.{◌≡◌, refl, sym, ap, ap₂, ◌∙◌, subst}
use mathlib.Core.Bool.{Bool, true, false, false≢true, ◌&&◌, cond}
use mathlib.Core.List.{List, [], ◌∷◌}
use Prim.Native.Nat.{ℕ, zero, suc, ◌+◌, ◌*◌, ◌/◌, ◌%◌, ◌<◌}
use native.Mathlib.Nat.{div-add-mod'}
use native.Mathlib.Omega.{arith}
use lib.Dec.{eqb}
use lib.ListN.{get_or, length}
use borrow.Author.Tests.{eqb-true, eq-eqb}
use Rattle.bits.specs.Merge.{merge}
use Rattle.lists.proofs.Both.{both_left, both_right}

-- an expression: no bit, a number, or a merge by a mask of two
pub data E : Type 0 where
  zeros : E
  var : ℕ → E
  by : E → E → E → E

abbrev pub num : ℕ → E → List ℕ → ℕ
num k zeros ρ = 0
num k (var i) ρ = get_or ρ i 0
num k (by m a b) ρ = merge k (num k m ρ) (num k a ρ) (num k b ρ)

abbrev halves : List ℕ → List ℕ
halves [] = []
halves (x ∷ xs) = x / 2 ∷ halves xs

abbrev digits : List ℕ → List ℕ
digits [] = []
digits (x ∷ xs) = x % 2 ∷ digits xs

get_half : (ρ : List ℕ) (i : ℕ) → get_or ρ i 0 / 2 ≡ get_or (halves ρ) i 0
get_half [] i = refl
get_half (x ∷ xs) zero = refl
get_half (x ∷ xs) (suc i) = get_half xs i

get_digit : (ρ : List ℕ) (i : ℕ) → get_or ρ i 0 % 2 ≡ get_or (digits ρ) i 0
get_digit [] i = refl
get_digit (x ∷ xs) zero = refl
get_digit (x ∷ xs) (suc i) = get_digit xs i

length_halves : (ρ : List ℕ) → length (halves ρ) ≡ length ρ
length_halves [] = refl
length_halves (x ∷ xs) = ap suc (length_halves xs)

-- the lowest digit of a merge, and what is above it
pub low : (c : Bool) (a b q : ℕ) → (cond c (a % 2) (b % 2) + 2 * q) % 2 ≡ cond c (a % 2) (b % 2)
low true a b q = omega arith
low false a b q = omega arith

pub high : (c : Bool) (a b q : ℕ) → (cond c (a % 2) (b % 2) + 2 * q) / 2 ≡ q
high true a b q = omega arith
high false a b q = omega arith

half : (k : ℕ) (e : E) (ρ : List ℕ) → num (suc k) e ρ / 2 ≡ num k e (halves ρ)
unfolding merge
half k zeros ρ = refl
half k (var i) ρ = get_half ρ i
half k (by m a b) ρ = rw (high, half k m ρ, half k a ρ, half k b ρ)

-- what an expression says at digits
abbrev pub digit : E → List ℕ → ℕ
digit zeros ρ = 0
digit (var i) ρ = get_or ρ i 0
digit (by m a b) ρ = cond (eqb (digit m ρ) 1) (digit a ρ) (digit b ρ)

last : (k : ℕ) (e : E) (ρ : List ℕ) → num (suc k) e ρ % 2 ≡ digit e (digits ρ)
unfolding merge
last k zeros ρ = refl
last k (var i) ρ = get_digit ρ i
last k (by m a b) ρ = rw (low, last k m ρ, last k a ρ, last k b ρ)

-- ---- the truth table

-- p at every list of n digits
abbrev pub everyway : ℕ → (List ℕ → Bool) → Bool
everyway zero p = p []
everyway (suc n) p = everyway n (λ ρ. p (0 ∷ ρ)) && everyway n (λ ρ. p (1 ∷ ρ))

oneway : (p : List ℕ → Bool) (ρ : List ℕ) → everyway (length ρ) p ≡ true → p (digits ρ) ≡ true
oneway p [] t = t
oneway p (x ∷ xs) t =
    go (x % 2) (omega arith)
    (oneway (λ ρ. p (0 ∷ ρ)) xs (both_left (everyway (length xs) (λ ρ. p (0 ∷ ρ))) (everyway (length xs) (λ ρ. p (1 ∷ ρ))) t))
    (oneway (λ ρ. p (1 ∷ ρ)) xs (both_right (everyway (length xs) (λ ρ. p (0 ∷ ρ))) (everyway (length xs) (λ ρ. p (1 ∷ ρ))) t))
  where
    go : (d : ℕ) → d < 2 → p (0 ∷ digits xs) ≡ true → p (1 ∷ digits xs) ≡ true → p (d ∷ digits xs) ≡ true
    go zero h a b = a
    go (suc zero) h a b = b
    go (suc (suc n)) h a b = absurd (omega arith)

-- e and f agree at digits at which every one of the expressions hs is 0
abbrev pub agree : List E → E → E → List ℕ → Bool
agree [] e f ρ = eqb (digit e ρ) (digit f ρ)
agree (h ∷ hs) e f ρ = cond (eqb (digit h ρ) 0) (agree hs e f ρ) true

-- a bare number may have more digits than are looked at
abbrev pub closed : E → Bool
closed zeros = true
closed (var i) = false
closed (by m a b) = true

abbrev pub table : ℕ → List E → E → E → Bool
table n hs e f = closed e && closed f && everyway n (agree hs e f)

abbrev pub Zeros : ℕ → List E → List ℕ → Type 0
Zeros k [] ρ = Unit
Zeros k (h ∷ hs) ρ = (num k h ρ ≡ 0) × Zeros k hs ρ

half_zeros : (k : ℕ) (hs : List E) (ρ : List ℕ) → Zeros (suc k) hs ρ → Zeros k hs (halves ρ)
half_zeros k [] ρ z = tt
half_zeros k (h ∷ hs) ρ z = (sym (half k h ρ) ∙ ap (λ (n : ℕ). n / 2) z.0, half_zeros k hs ρ z.1)

use_zeros : (k : ℕ) (hs : List E) (e f : E) (ρ : List ℕ) → Zeros (suc k) hs ρ → agree hs e f (digits ρ) ≡ true
    → digit e (digits ρ) ≡ digit f (digits ρ)
use_zeros k [] e f ρ z t = eqb-true _ _ t
use_zeros k (h ∷ hs) e f ρ z t =
    use_zeros k hs e f ρ z.1
    (subst (λ (b : Bool). cond b (agree hs e f (digits ρ)) true ≡ true)
    (eq-eqb (digit h (digits ρ)) 0 (sym (last k h ρ) ∙ ap (λ (n : ℕ). n % 2) z.0)) t)

none : (e : E) (ρ : List ℕ) → closed e ≡ true → num 0 e ρ ≡ 0
unfolding merge
none zeros ρ t = refl
none (var i) ρ t = absurd (false≢true t)
none (by m a b) ρ t = refl

module _ (hs : List E) (e f : E) where
  pub law_if : (k : ℕ) (ρ : List ℕ) → table (length ρ) hs e f ≡ true → Zeros k hs ρ → num k e ρ ≡ num k f ρ
  law_if zero ρ t z =
      let c : (closed e && closed f) ≡ true = both_left (closed e && closed f) (everyway (length ρ) (agree hs e f)) t in
      none e ρ (both_left (closed e) (closed f) c) ∙ sym (none f ρ (both_right (closed e) (closed f) c))
  law_if (suc k) ρ t z =
      let up : num k e (halves ρ) ≡ num k f (halves ρ) =
      law_if k (halves ρ) (subst (λ (n : ℕ). table n hs e f ≡ true) (sym (length_halves ρ)) t) (half_zeros k hs ρ z) in
      let down : digit e (digits ρ) ≡ digit f (digits ρ) =
      use_zeros k hs e f ρ z (oneway (agree hs e f) ρ (both_right (closed e && closed f) (everyway (length ρ) (agree hs e f)) t)) in
      sym (div-add-mod' (num (suc k) e ρ) 2)
      ∙ ap₂ (λ (a b : ℕ). a * 2 + b) (half k e ρ ∙ up ∙ sym (half k f ρ)) (last k e ρ ∙ down ∙ sym (last k f ρ))
      ∙ div-add-mod' (num (suc k) f ρ) 2

pub law : (e f : E) (k : ℕ) (ρ : List ℕ) → table (length ρ) [] e f ≡ true → num k e ρ ≡ num k f ρ
law e f k ρ t = law_if [] e f k ρ t tt
