-- `meter::is_below` meets its contract: the comparisons of floats are those of the fractions. Assumes nothing.
use mathlib.Core.Path.{◌≡◌, refl, sym, ap, ◌∙◌, subst}
use mathlib.Core.Bool.{Bool, true, false, ◌&&◌}
use Prim.Native.Nat.{ℕ, ◌+◌, ◌*◌, ◌^◌, ◌<◌}
use native.Mathlib.Nat.{mul-one, one-mul, mul-pos}
use native.Mathlib.Omega.{arith}
use lib.IntN.{pos}
use lib.Dec.{ltb, lt→ltb}
use lib.Pow.{pow_pos}
use lib.Ieee.{Float, nan, inf, fin, up, down, below, lt, neg, of_bits}
use lib.Ieee.Fits.{down_pos}
use lib.Ieee.Bits.{is_true}
use Rattle.meter.specs.Found.{is_below}
use Rattle.meter.proofs.is_below.Goals as goal

right : (p : Bool) → (p && true) ≡ p
right true = refl
right false = refl

some : (n : ℕ) → 0 < n → ltb 0 n ≡ true
some n h = is_true (ltb 0 n) (lt→ltb 0 n h)

sized : (s : Bool) (a b : ℕ) → 0 < b → (below s a false b && below true b s a) ≡ ltb a b
sized false a b h = ap (λ (q : Bool). ltb a b && q) (some (b + a) (omega arith)) ∙ right (ltb a b)
sized true a b h = ap (λ (q : Bool). q && ltb a b) (some (a + b) (omega arith))

between : (k : ℕ) (x : Float) → (lt x (fin false 1 (pos k)) && lt (fin true 1 (pos k)) x) ≡ is_below x k
unfolding lt
between k nan = refl
between k (inf true) = refl
between k (inf false) = refl
between k (fin s m e) =
    let b : 1 * 2 ^ k * down e ≡ 2 ^ k * down e = ap (λ (p : ℕ). p * down e) (one-mul (2 ^ k)) in
    sized s (m * up e * 1) (1 * 2 ^ k * down e) (subst (λ (n : ℕ). 0 < n) (sym b) (mul-pos (pow_pos k) (down_pos e)))
    ∙ ap (λ (a : ℕ). ltb a (1 * 2 ^ k * down e)) (mul-one (m * up e))
    ∙ ap (λ (n : ℕ). ltb (m * up e) n) b

-- the second comparison, where the first holds and where it does not
inside : (k : ℕ) (x : Float) → lt x (fin false 1 (pos k)) ≡ true → lt (fin true 1 (pos k)) x ≡ is_below x k
inside k x h = ap (λ (b : Bool). b && lt (fin true 1 (pos k)) x) (sym h) ∙ between k x

outside : (k : ℕ) (x : Float) → lt x (fin false 1 (pos k)) ≡ false → lt x (fin false 1 (pos k)) ≡ is_below x k
outside k x h = h ∙ ap (λ (b : Bool). b && lt (fin true 1 (pos k)) x) (sym h) ∙ between k x

pub returns-then-x : goal.returns-then-x
unfolding of_bits neg
returns-then-x c = inside 0 c.args.x c.if-x.true ∙ ap (λ (k : ℕ). is_below c.args.x k) (sym c.in-0.is)

pub returns-else-x : goal.returns-else-x
unfolding of_bits neg
returns-else-x c = outside 0 c.args.x c.if-x.false ∙ ap (λ (k : ℕ). is_below c.args.x k) (sym c.in-0.is)

pub returns-then-x-2 : goal.returns-then-x-2
unfolding of_bits neg
returns-then-x-2 c = inside 1 c.args.x c.if-x-2.true ∙ ap (λ (k : ℕ). is_below c.args.x k) (sym c.in-1.is)

pub returns-else-x-2 : goal.returns-else-x-2
unfolding of_bits neg
returns-else-x-2 c = outside 1 c.args.x c.if-x-2.false ∙ ap (λ (k : ℕ). is_below c.args.x k) (sym c.in-1.is)

pub returns-then-x-3 : goal.returns-then-x-3
unfolding of_bits neg
returns-then-x-3 c = let e : 2 ≡ c.args.mode = omega arith in inside 2 c.args.x c.if-x-3.true ∙ ap (λ (k : ℕ). is_below c.args.x k) e

pub returns-else-x-3 : goal.returns-else-x-3
unfolding of_bits neg
returns-else-x-3 c = let e : 2 ≡ c.args.mode = omega arith in outside 2 c.args.x c.if-x-3.false ∙ ap (λ (k : ℕ). is_below c.args.x k) e
