-- A matrix as 25 bytes. `sets d at xs` of lib.Seq is d with xs stored from index at. Assumes nothing.
--     turn_bytes              a coefficient more
--     unmoved                 fields of 13 bits are their own 13 bits
--     body_bytes, body_back   the bytes are bytes, are allowed, and are read as the matrix
use mathlib.Core.Path.{◌≡◌, refl, sym, ap, ap₂, ◌∙◌}
use mathlib.Core.Bool.{Bool, true, false, cond}
use mathlib.Core.List.{List, [], ◌∷◌, ◌++◌, map}
use Prim.Native.Nat.{ℕ, zero, suc, ◌+◌, ◌*◌, ◌/◌, ◌%◌, ◌<◌}
use native.Mathlib.Nat.{mod-eq_of_lt}
use native.Mathlib.Numerals.{add-one}
use native.Mathlib.Omega.{arith}
use lib.Dec.{ltb, lit<}
use lib.ListN.{length, get_or, take, set}
use lib.Seq.{sets, take-suc, length-take-le}
use borrow.Author.Tests.{le-leb}
use Rattle.lists.proofs.Emit.{sets_two}
use Rattle.matrix.specs.declared.Matrix.{Matrix}
use Rattle.matrix.specs.Coefficient.{low_thirteen, high_byte, coefficient_bytes}
use Rattle.matrix.specs.Tests.{in_range, is_allowed}
use Rattle.matrix.specs.Matrix.{Bytes}
use Rattle.matrix.specs.Body.{body_of, Whole, BodyBack}
use Rattle.matrix.proofs.Pairs.{length_bytes, fields_said}
use Rattle.matrix.proofs.Signs.{carried}

bytes_append : (xs ys : List ℕ) → coefficient_bytes (xs ++ ys) ≡ coefficient_bytes xs ++ coefficient_bytes ys
bytes_append [] ys = refl
bytes_append (x ∷ xs) ys = ap (λ (l : List ℕ). high_byte x ∷ x % 256 ∷ l) (bytes_append xs ys)

-- a turn stores the two bytes of one coefficient more
pub turn_bytes : (cs d : List ℕ) (at i n m a b : ℕ) → i < length cs → at + 2 * i ≡ n → n + 1 ≡ m
    → a ≡ high_byte (get_or cs i 0) → b ≡ get_or cs i 0 % 256
    → set (set (sets d at (coefficient_bytes (take i cs))) n a) m b ≡ sets d at (coefficient_bytes (take (i + 1) cs))
turn_bytes cs d at i n m a b h e f p q =
    let l : length (coefficient_bytes (take i cs)) ≡ 2 * i = length_bytes (take i cs) ∙ ap (λ (n : ℕ). 2 * n) (length-take-le i cs (omega arith)) in
    rw (← f) (sets_two (coefficient_bytes (take i cs)) d at n a b (omega arith))
    ∙ ap (sets d at) (ap₂ (λ (x y : ℕ). coefficient_bytes (take i cs) ++ (x ∷ y ∷ [])) p q
    ∙ sym (ap (λ (n : ℕ). coefficient_bytes (take n cs)) (add-one i) ∙ ap coefficient_bytes (take-suc cs i 0 h) ∙ bytes_append (take i cs) (get_or cs i 0 ∷ [])))

pub unmoved : (cs : List ℕ) → ((i : ℕ) → get_or cs i 0 < 8192) → map low_thirteen cs ≡ cs
unmoved [] h = refl
unmoved (c ∷ cs) h = ap₂ (λ (x : ℕ) (l : List ℕ). x ∷ l) (mod-eq_of_lt (h 0)) (unmoved cs (λ i. h (suc i)))

-- each coefficient is from -4096 to 4095
pub all_within : (cs : List ℕ) → ((i : ℕ) → get_or cs i 0 < 8192) → in_range (coefficient_bytes cs) ≡ true
unfolding in_range
all_within [] h = refl
all_within (c ∷ cs) h = rw (carried c (h 0)).range (all_within cs (λ i. h (suc i)))

-- each of them is a byte
high_small : (c : ℕ) → c < 8192 → high_byte c < 256
high_small c h = go (ltb c 4096)
  where
    go : (b : Bool) → cond b (c / 256) (c / 256 + 224) < 256
    go true = omega arith
    go false = omega arith

bytes_small : (cs : List ℕ) (i : ℕ) → get_or (coefficient_bytes (map low_thirteen cs)) i 0 < 256
bytes_small [] i = lit< tt
bytes_small (c ∷ cs) zero = high_small (c % 8192) (omega arith)
bytes_small (c ∷ cs) (suc zero) = omega arith
bytes_small (c ∷ cs) (suc (suc i)) = bytes_small cs i

body_bytes : (m : Matrix) → m.mode < 256 → Bytes (body_of m)
body_bytes m h zero = h
body_bytes m h (suc i) = bytes_small m.coefficients i

pub body_back : (m : Matrix) → Whole m → BodyBack m
unfolding is_allowed
body_back m w =
    let cs = m.coefficients in
    let e : map low_thirteen cs ≡ cs = unmoved cs w.each in
    let l : length (coefficient_bytes cs) ≡ 24 = omega (arith, length_bytes cs, w.twelve) in
    record {
      bytes = body_bytes m (omega (arith, w.mode));
      allowed = rw e (simp (l, le-leb m.mode 2 w.mode, all_within cs w.each));
      back = rw (e, fields_said cs w.each, ← w.on) refl;
    }
