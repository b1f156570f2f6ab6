-- Rows of named fields, any: where in each register they fall, share no bit and lie within eight, which is one computed test, and each number
-- fits its width, the bits [high:low] of the byte that they place are the row's number. Assumes nothing.
use mathlib.Core.Path.{◌≡◌, refl, sym, ap, subst, ◌∙◌}
use mathlib.Core.Bool.{Bool, true, false, false≢true, cond, ◌&&◌}
use mathlib.Core.List.{List, [], ◌∷◌, ◌++◌}
use Prim.Native.Nat.{ℕ, zero, suc, ◌+◌, ◌-◌, ◌*◌, ◌/◌, ◌%◌, ◌^◌, ◌<◌, ◌≤◌}
use native.Mathlib.Nat.{add-zero, add-suc, mul-one, mul_assoc, suc-mul, pow-suc, pow-le-pow_right, div-eq_of_lt, mul-add-div_right}
use native.Mathlib.Nat.{mul-add-mod_self_right, mod-eq_of_lt, add-mul, mul-le-mul_right}
use native.Mathlib.Omega.{arith}
use lib.Dec.{eqb, ltb, leb, lit<}
use borrow.Author.Tests.{eq-eqb, ltb-true, leb-true}
use Rattle.lists.specs.Find.{every}
use Rattle.lists.proofs.Both.{both_left, both_right}
use Rattle.bits.specs.Merge.{bits_in}
use Rattle.bits.proofs.Below.{below, at_below}
use Rattle.plan.specs.Places.{Place, Each}
use Rattle.plan.specs.Wanted.{rows_in, summed, placed_at}

-- ---- powers

power_sum : (a b : ℕ) → 2 ^ (a + b) ≡ 2 ^ a * 2 ^ b
power_sum a zero = ap (λ (n : ℕ). 2 ^ n) (add-zero a) ∙ sym (mul-one (2 ^ a))
power_sum a (suc b) =
    ap (λ (n : ℕ). 2 ^ n) (add-suc a b) ∙ pow-suc 2 (a + b) ∙ ap (λ (n : ℕ). n * 2) (power_sum a b) ∙ mul_assoc (2 ^ a) (2 ^ b) 2
    ∙ ap (λ (n : ℕ). 2 ^ a * n) (sym (pow-suc 2 b))

power_apart : (a b : ℕ) → b ≤ a → 2 ^ a ≡ 2 ^ (a - b) * 2 ^ b
power_apart a b h = let e : a ≡ a - b + b = omega arith in ap (λ (n : ℕ). 2 ^ n) e ∙ power_sum (a - b) b

power_some : (n : ℕ) → 0 < 2 ^ n
power_some zero = lit< tt
power_some (suc n) = omega (arith, pow-suc 2 n, power_some n)

-- ---- the rows of one register

-- each lies below `top`, and the next below it
abbrev falls : ℕ → List Place → Bool
falls top [] = true
falls top (f ∷ fs) = (ltb f.high top && leb f.low f.high) && falls f.low fs

abbrev pub Narrow : Place → Type 0
Narrow f = f.number < 2 ^ (f.high + 1 - f.low)

module _ (f : Place) (fs : List Place) (top : ℕ) (t : falls top (f ∷ fs) ≡ true) where
  front : (ltb f.high top && leb f.low f.high) ≡ true
  front = both_left _ (falls f.low fs) t

  under_top : f.high < top
  under_top = ltb-true _ _ (both_left _ (leb f.low f.high) front)

  in_order : f.low ≤ f.high
  in_order = leb-true _ _ (both_right (ltb f.high top) _ front)

  width : 2 ^ (f.high + 1) ≡ 2 ^ (f.high + 1 - f.low) * 2 ^ f.low
  width = power_apart (f.high + 1) f.low (omega (arith, in_order))

-- a sum lies below its top
within : (top : ℕ) (fs : List Place) → falls top fs ≡ true → Each Narrow fs → summed fs < 2 ^ top
within top [] t n = power_some top
within top (f ∷ fs) t n =
    let rest : summed fs < 2 ^ f.low = within f.low fs (both_right (ltb f.high top && leb f.low f.high) _ t) n.1 in
    let most : suc f.number * 2 ^ f.low ≤ 2 ^ (f.high + 1 - f.low) * 2 ^ f.low = mul-le-mul_right (2 ^ f.low) n.0 in
    let above : 2 ^ (f.high + 1) ≤ 2 ^ top = pow-le-pow_right (lit< tt) (omega (arith, under_top f fs top t)) in
    omega (arith, suc-mul f.number (2 ^ f.low), width f fs top t)

-- the number of each, under anything above the top
under : (top : ℕ) (fs : List Place) → falls top fs ≡ true → Each Narrow fs → (c : ℕ)
    → Each (λ f. bits_in f.high f.low (c * 2 ^ top + summed fs) ≡ f.number) fs
under top [] t n c = tt
under top (f ∷ fs) t n c =
    let l : ℕ = f.low in
    let w : ℕ = f.high + 1 - l in
    let above : ℕ = c * 2 ^ (top - l) + f.number in
    let later : falls l fs ≡ true = both_right (ltb f.high top && leb l f.high) _ t in
    let high : l ≤ f.high = in_order f fs top t in
    let room : f.high < top = under_top f fs top t in
    -- what stands above is one number, moved to the row's lowest bit
    let moved : c * 2 ^ top + (f.number * 2 ^ l + summed fs) ≡ above * 2 ^ l + summed fs
    = ap (λ (x : ℕ). c * x + (f.number * 2 ^ l + summed fs)) (power_apart top l (omega arith))
    ∙ omega (arith, mul_assoc c (2 ^ (top - l)) (2 ^ l), add-mul (c * 2 ^ (top - l)) f.number (2 ^ l)) in
    let cut : (above * 2 ^ l + summed fs) / 2 ^ l ≡ above
    = mul-add-div_right (power_some l) above (summed fs) ∙ ap (λ (x : ℕ). above + x) (div-eq_of_lt (within l fs later n.1)) ∙ add-zero above in
    let more : c * 2 ^ (top - l) ≡ c * 2 ^ (top - l - w) * 2 ^ w
    = ap (λ (x : ℕ). c * x) (power_apart (top - l) w (omega arith)) ∙ sym (mul_assoc c (2 ^ (top - l - w)) (2 ^ w)) in (
      ap (bits_in f.high l) moved ∙ ap (λ (x : ℕ). x % 2 ^ w) cut ∙ ap (λ (x : ℕ). (x + f.number) % 2 ^ w) more
          ∙ mul-add-mod_self_right (c * 2 ^ (top - l - w)) (2 ^ w) f.number ∙ mod-eq_of_lt n.0,
      subst (λ (x : ℕ). Each (λ g. bits_in g.high g.low x ≡ g.number) fs) (sym moved) (under l fs later n.1 above),
    )

-- ---- all rows

abbrev pub tidy : List Place → Bool
tidy rows = below (λ a. falls 8 (rows_in a rows)) 256 && every (λ f. ltb f.address 256) rows

-- what holds of all rows holds of those of a register, and back
of_those : (P : Place → Type 0) (a : ℕ) (rows : List Place) → Each P rows → Each P (rows_in a rows)
of_those P a [] e = tt
of_those P a (f ∷ rows) e = go (eqb a f.address) (of_those P a rows e.1)
  where
    go : (b : Bool) → Each P (rows_in a rows) → Each P (cond b (f ∷ []) [] ++ rows_in a rows)
    go true more = (e.0, more)
    go false more = more

to_all : (P : Place → Type 0) (a : ℕ) (rows : List Place) → Each P (rows_in a rows) → Each (λ f. eqb a f.address ≡ true → P f) rows
to_all P a [] e = tt
to_all P a (f ∷ rows) e = let both = go (eqb a f.address) e in (both.0, to_all P a rows both.1)
  where
    go : (b : Bool) → Each P (cond b (f ∷ []) [] ++ rows_in a rows) → (b ≡ true → P f) × Each P (rows_in a rows)
    go true e = (λ _. e.0, e.1)
    go false e = (λ t. absurd (false≢true t), e)

module _ (rows : List Place) (n : Each Narrow rows) (t : tidy rows ≡ true) where
  abbrev Stored : ℕ → Place → Type 0
  Stored a f = bits_in f.high f.low (placed_at a rows) ≡ f.number

  in_order_at : (a : ℕ) → a < 256 → falls 8 (rows_in a rows) ≡ true
  in_order_at a h = at_below (λ a. falls 8 (rows_in a rows)) 256 a (both_left _ (every (λ f. ltb f.address 256) rows) t) h

  pub byte_placed : (a : ℕ) → a < 256 → placed_at a rows < 256
  byte_placed a h = within 8 (rows_in a rows) (in_order_at a h) (of_those Narrow a rows n)

  in_register : (a : ℕ) → a < 256 → Each (λ f. eqb a f.address ≡ true → Stored a f) rows
  in_register a h =
      let e : 0 * 2 ^ 8 + placed_at a rows ≡ placed_at a rows = omega arith in
      to_all (Stored a) a rows
      (subst (λ (x : ℕ). Each (λ f. bits_in f.high f.low x ≡ f.number) (rows_in a rows)) e
      (under 8 (rows_in a rows) (in_order_at a h) (of_those Narrow a rows n) 0))

  own : (fs : List Place) → every (λ f. ltb f.address 256) fs ≡ true
      → ((a : ℕ) → a < 256 → Each (λ f. eqb a f.address ≡ true → Stored a f) fs) → Each (λ f. Stored f.address f) fs
  own [] u h = tt
  own (f ∷ fs) u h =
      let l : f.address < 256 = ltb-true _ _ (both_left _ (every (λ f. ltb f.address 256) fs) u) in
      ((h f.address l).0 (eq-eqb f.address f.address refl), own fs (both_right (ltb f.address 256) _ u) (λ a k. (h a k).1))

  pub each_placed : Each (λ f. bits_in f.high f.low (placed_at f.address rows) ≡ f.number) rows
  each_placed = own rows (both_right (below (λ a. falls 8 (rows_in a rows)) 256) _ t) in_register
