-- The test of an exact pair, and the nearest one among those that there are. Assumes nothing.
use mathlib.Core.Path.{◌≡◌, refl, sym, ◌∙◌, subst}
use mathlib.Core.Logic.{◌⊎◌, inl, inr}
use mathlib.Core.Bool.{Bool, true, false, false≢true, cond, ◌&&◌}
use Prim.Native.Nat.{ℕ, ◌*◌, ◌/◌, ◌<◌, ◌≤◌}
use native.Mathlib.Nat.{mul_assoc, mul_comm, mul-pos}
use native.Mathlib.Omega.{arith}
use lib.Dec.{ltb}
use borrow.Author.Tests.{leb-true, le-leb, lt-leb, eqb-true, eq-eqb, ltb-true, ltb-false}
use Rattle.ratio.specs.Terms.{top_of, bottom_of}
use Rattle.ratio.proofs.Multiples.{meets, multiple, u_some, v_some}
use Rattle.clock.specs.Numbered.{Clock}
use Rattle.clock.specs.Pairs.{reference, Exact, far}
use Rattle.clock.specs.Answers.{the_pair, no_pair}
use Rattle.clock.specs.Found.{exactly, nearest_k, nearest_in, nearest_of, least_k, most_k}
use Rattle.clock.proofs.Rates.{reference_some}
use Rattle.clock.proofs.Range.{least_in, most_in, between, best, below_low, below_high, Better}

all_four : (a b c d : Bool) → (a && b && c && d) ≡ true → (a ≡ true) × (b ≡ true) × (c ≡ true) × (d ≡ true)
all_four true true true d e = (refl, refl, refl, e)
all_four true true false d e = absurd (false≢true e)
all_four true false c d e = absurd (false≢true e)
all_four false b c d e = absurd (false≢true e)

pub exact_of : (clock : Clock) (rate n cts : ℕ) → exactly clock rate n cts ≡ true → Exact clock rate n cts
unfolding exactly
exact_of clock rate n cts e =
    let t = all_four _ _ _ _ e in
    record {
      equation = eqb-true _ _ t.3;
      least = leb-true _ _ t.0;
      most = leb-true _ _ t.1;
      fits = leb-true _ _ t.2;
    }

pub exactly_of : (clock : Clock) (rate n cts : ℕ) → Exact clock rate n cts → exactly clock rate n cts ≡ true
unfolding exactly
exactly_of clock rate n cts x =
    rw (le-leb _ _ x.least, le-leb _ _ x.most, le-leb _ _ x.fits, eq-eqb _ _ x.equation)

-- N 0 is not in range
pub none_of_zero : (clock : Clock) (rate : ℕ) → rate < 7 → exactly clock rate 0 0 ≡ false
unfolding exactly
none_of_zero clock rate h = rw (lt-leb _ _ (reference_some rate h))

abbrev pub None : Clock → ℕ → Type 0
None clock rate = (n cts : ℕ) → Exact clock rate n cts → ⊥

abbrev pub Best : Clock → ℕ → ℕ → Type 0
Best clock rate n = (m cts : ℕ) → Exact clock rate m cts → (far rate n ≤ far rate m) × (far rate n ≡ far rate m → n ≤ m)

-- the equation's left side, with what does not depend on CTS first
pub turned : (clock : Clock) (rate cts : ℕ) → reference rate * cts * clock.den ≡ clock.den * reference rate * cts
turned clock rate cts = mul_comm (reference rate * cts) clock.den ∙ sym (mul_assoc clock.den (reference rate) cts)

module _ (clock : Clock) (rate : ℕ) (num : 0 < clock.num) (den : 0 < clock.den) (some : 0 < reference rate) where
  abbrev over : ℕ
  over = clock.den * reference rate

  over_some : 0 < over
  over_some = mul-pos den some

  abbrev step_cts : ℕ
  step_cts = top_of clock.num over

  abbrev step_n : ℕ
  step_n = bottom_of clock.num over

  step_n_some : 0 < step_n
  step_n_some = v_some clock.num over over_some

  step_cts_some : 0 < step_cts
  step_cts_some = u_some clock.num over over_some num

  abbrev least : ℕ
  least = least_k (reference rate) step_n

  abbrev most : ℕ
  most = most_k (reference rate) step_cts step_n

  -- an exact pair is (k·v, k·u) for a k in range
  inside : (n cts : ℕ) → Exact clock rate n cts → (k : ℕ) × (n ≡ k * step_n) × (least ≤ k) × (k ≤ most)
  inside n cts x =
      let w = multiple clock.num over over_some n cts (sym (turned clock rate cts) ∙ x.equation) in
      let k : ℕ = w.0 in
      let en : n ≡ k * step_n = w.1 in
      let ec : cts ≡ k * step_cts = w.2 in (
        k,
        en,
        (least_in (reference rate) step_n k step_n_some).1 (subst (λ (y : ℕ). reference rate ≤ 1500 * y) en x.least),
        (most_in (reference rate) step_cts step_n k step_cts_some step_n_some).1
            (subst (λ (y : ℕ). 300 * y ≤ reference rate) en x.most, subst (λ (y : ℕ). y ≤ 1048575) ec x.fits),
      )

  -- and each such pair is exact
  outside : (k : ℕ) → least ≤ k → k ≤ most → Exact clock rate (k * step_n) (k * step_cts)
  outside k l m =
      let r = (most_in (reference rate) step_cts step_n k step_cts_some step_n_some).0 m in
      record {
        equation = turned clock rate (k * step_cts) ∙ meets clock.num over over_some k;
        least = (least_in (reference rate) step_n k step_n_some).0 l;
        most = r.0;
        fits = r.1;
      }

  abbrev below : ℕ
  below = reference rate / (1000 * step_n)

  abbrev K : ℕ
  K = nearest_k (reference rate) step_n least most below

  -- no pair is exact, and 9 is given; or the one given is exact, and none is nearer
  pub nearest_found : ((nearest_of clock rate ≡ no_pair 9) × None clock rate)
      ⊎ ((n : ℕ) × (cts : ℕ) × (nearest_of clock rate ≡ the_pair n cts) × Exact clock rate n cts × Best clock rate n)
  unfolding nearest_of nearest_in
  nearest_found = go (ltb most least) refl
    where
      go : (t : Bool) → ltb most least ≡ t
          → ((cond t (no_pair 9) (the_pair (K * step_n) (K * step_cts)) ≡ no_pair 9) × None clock rate)
          ⊎ ((n : ℕ) × (cts : ℕ) × (cond t (no_pair 9) (the_pair (K * step_n) (K * step_cts)) ≡ the_pair n cts) × Exact clock rate n cts × Best clock rate n)
      go true e = inl (refl, λ n cts x. let w = inside n cts x in absurd (omega (arith, ltb-true most least e)))
      go false e =
          let b = between (reference rate) step_n least most below (ltb-false most least e) in
          inr (
            K * step_n,
            K * step_cts,
            refl,
            outside K b.0 b.1,
            λ m cts x.
                let w = inside m cts x in
                subst (λ (y : ℕ). Better (reference rate) (K * step_n) y) (sym w.1)
                (best (reference rate) step_n least most below (below_low (reference rate) step_n) (below_high (reference rate) step_n step_n_some)
                w.0 w.2 w.3),
          )
