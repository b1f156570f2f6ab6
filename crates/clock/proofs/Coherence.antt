-- The pair that is found for coherent audio is the one that document 01 asks for, and there is no other. Assumes nothing.
use mathlib.Core.Path.{◌≡◌, refl, sym, ◌∙◌, subst}
use mathlib.Core.Logic.{◌⊎◌, inl, inr, ◌≢◌}
use mathlib.Core.Bool.{Bool, true, false, false≢true, cond, not, ◌&&◌}
use mathlib.Core.List.{[], ◌∷◌}
use Prim.Native.Nat.{ℕ, ◌*◌, ◌<◌}
use native.Mathlib.Nat.{eq_of_mul-eq-mul_left, mul-pos, le_antisymm}
use native.Mathlib.Omega.{arith}
use lib.Dec.{eqb, ltb}
use borrow.Author.Tests.{eqb-true, eqb-false, le-ltb}
use Rattle.refusals.specs.Rows.{no_exact_pair}
use Rattle.refusals.specs.Tests.{◌if◌, lowest, answer}
use Rattle.video.specs.declared.Video.{Video}
use Rattle.clock.specs.Numbered.{Clock}
use Rattle.clock.specs.Numbered.{Pair}
use Rattle.clock.specs.Answers.{clock_of}
use Rattle.clock.specs.Pairs.{reference, Exact, recommended_of, Coherent}
use Rattle.clock.specs.Answers.{the_pair, no_pair, other}
use Rattle.clock.specs.Found.{exactly, least_k, most_k, nearest_in, nearest_of, coherent_of, pair_of}
use Rattle.clock.specs.Theorems.{PairRule}
use Rattle.clock.proofs.Rates.{reference_some}
use Rattle.clock.proofs.Offered.{taken, sized}
use Rattle.clock.proofs.Exactness.{exact_of, exactly_of, turned, None, Best, nearest_found}

zero_not_nine : ◌≢◌ {A = ℕ} 0 9
zero_not_nine e = omega arith

module _ (clock : Clock) (rate : ℕ) where
  abbrev N : ℕ
  N = (recommended_of clock rate).n

  abbrev C : ℕ
  C = (recommended_of clock rate).cts

  -- each of the three ways to an answer
  by_table : Exact clock rate N C → Coherent clock rate (the_pair N C)
  by_table x =
      record {
        refused = ((λ e. absurd (zero_not_nine e)), (λ none. absurd (none N C x)));
        nothing = λ e. absurd (zero_not_nine e);
        exact = λ _. (refl, x);
        recommended = λ _. (refl, refl);
        nearest = λ none. absurd (none x);
      }

  by_none : None clock rate → Coherent clock rate (no_pair 9)
  by_none none =
      record {
        refused = ((λ _. none), (λ _. refl));
        nothing = λ _. (refl, refl);
        exact = λ ne. absurd (ne refl);
        recommended = λ x. absurd (none N C x);
        nearest = λ _ n cts x. absurd (none n cts x);
      }

  by_nearest : (n cts : ℕ) → (Exact clock rate N C → ⊥) → Exact clock rate n cts → Best clock rate n → Coherent clock rate (the_pair n cts)
  by_nearest n cts out x b =
      record {
        refused = ((λ e. absurd (zero_not_nine e)), (λ none. absurd (none n cts x)));
        nothing = λ e. absurd (zero_not_nine e);
        exact = λ _. (refl, x);
        recommended = λ y. absurd (out y);
        nearest = λ _. b;
      }

  found : 0 < clock.num → 0 < clock.den → 0 < reference rate → Coherent clock rate (coherent_of clock rate)
  unfolding coherent_of
  found num den some = go (exactly clock rate N C) refl (nearest_found clock rate num den some)
    where
      go : (t : Bool) → exactly clock rate N C ≡ t
          → ((nearest_of clock rate ≡ no_pair 9) × None clock rate)
          ⊎ ((n : ℕ) × (cts : ℕ) × (nearest_of clock rate ≡ the_pair n cts) × Exact clock rate n cts × Best clock rate n)
          → Coherent clock rate (cond t (the_pair N C) (nearest_of clock rate))
      go true e w = by_table (exact_of clock rate N C e)
      go false e (inl w) = subst (λ (a : Pair). Coherent clock rate a) (sym w.0) (by_none w.1)
      go false e (inr w) =
          subst (λ (a : Pair). Coherent clock rate a) (sym w.2)
          (by_nearest w.0 w.1 (λ x. false≢true (sym e ∙ exactly_of clock rate N C x)) w.3 w.4)

  -- two exact pairs with one N are one pair
  same_cts : 0 < clock.den → 0 < reference rate → (n c d : ℕ) → Exact clock rate n c → Exact clock rate n d → c ≡ d
  same_cts den some n c d x y =
      eq_of_mul-eq-mul_left (clock.den * reference rate) (mul-pos den some) c d
      (sym (turned clock rate c) ∙ x.equation ∙ sym y.equation ∙ turned clock rate d)

  abbrev Same : Pair → Pair → Type 0
  Same a b = (a.refusal ≡ b.refusal) × (a.n ≡ b.n) × (a.cts ≡ b.cts)

  same : (a b : Pair) → Same a b → a ≡ b
  same a b s = λ i. record { refusal = s.0 i; n = s.1 i; cts = s.2 i }

  one : 0 < clock.den → 0 < reference rate → (a b : Pair) → Coherent clock rate a → Coherent clock rate b → a ≡ b
  one den some a b p q = same a b (go (eqb a.refusal 9) refl)
    where
      both : Exact clock rate a.n a.cts → Exact clock rate b.n b.cts → (t : Bool) → exactly clock rate N C ≡ t → a.n ≡ b.n
      both x y true e = let r = exact_of clock rate N C e in (p.recommended r).0 ∙ sym (q.recommended r).0
      both x y false e =
          let out : Exact clock rate N C → ⊥ = λ r. false≢true (sym e ∙ exactly_of clock rate N C r) in
          let l = p.nearest out b.n b.cts y in
          let m = q.nearest out a.n a.cts x in
          let f = le_antisymm l.0 m.0 in
          le_antisymm (l.1 f) (m.1 (sym f))

      go : (t : Bool) → eqb a.refusal 9 ≡ t → Same a b
      go true e =
          let nine : a.refusal ≡ 9 = eqb-true a.refusal 9 e in
          let other : b.refusal ≡ 9 = q.refused.1 (p.refused.0 nine) in
          let za = p.nothing nine in
          let zb = q.nothing other in
          (nine ∙ sym other, za.0 ∙ sym zb.0, za.1 ∙ sym zb.1)
      go false e =
          let ne = eqb-false a.refusal 9 e in
          let x = p.exact ne in
          let y = q.exact (λ nine. ne (p.refused.1 (q.refused.0 nine))) in
          let n : a.n ≡ b.n = both x.1 y.1 (exactly clock rate N C) refl in
          (x.0 ∙ sym y.0, n, same_cts den some b.n a.cts b.cts (subst (λ (k : ℕ). Exact clock rate k a.cts) n x.1) y.1)

-- of a clock that is answered
pub in_mode_lem : (video : Video) (rate : ℕ) → (clock_of video).refusal ≡ 0 → rate < 7 → Coherent (clock_of video) rate (coherent_of (clock_of video) rate)
in_mode_lem video rate o h = let s = sized video o in found (clock_of video) rate s.some s.part (reference_some rate h)

-- what is answered is refusal 9 with zeros, or no refusal
abbrev pub EitherWay : Pair → Type 0
EitherWay p = (p ≡ no_pair 9) ⊎ (p.refusal ≡ 0)

one_of : (b : Bool) {p q : Pair} → EitherWay p → EitherWay q → EitherWay (cond b p q)
one_of true y z = y
one_of false y z = z

near : (f u v : ℕ) → EitherWay (nearest_in f u v)
unfolding nearest_in
near f u v = one_of (ltb (most_k f u v) (least_k f v)) (inl refl) (inr refl)

pub either_way : (clock : Clock) (rate : ℕ) → EitherWay (coherent_of clock rate)
unfolding coherent_of nearest_of
either_way clock rate = one_of (exactly clock rate (N clock rate) (C clock rate)) (inr refl) (near _ _ _)

-- what is answered where rows 4, 5 and 17 do not apply
pub pair_in_lem : (video : Video) (rate coherent : ℕ) → (clock_of video).refusal ≡ 0 → rate < 7 → coherent < 2
    → pair_of video rate coherent ≡ cond (eqb coherent 1) (coherent_of (clock_of video) rate) (other rate)
unfolding pair_of
pair_in_lem video rate coherent o h k =
    let t = taken video o in
    rw (t.offered, t.inside, t.within, le-ltb 6 rate (omega arith), le-ltb 1 coherent (omega arith))
    (go (eqb coherent 1) (coherent_of (clock_of video) rate) (either_way (clock_of video) rate))
  where
    go : (b : Bool) (c : Pair) → EitherWay c
        → answer (lowest (no_exact_pair if (b && not (eqb c.refusal 0)) ∷ [])) no_pair (cond b c (other rate)) ≡ cond b c (other rate)
    go false c w = refl
    go true c (inl e) = rw e
    go true c (inr e) = rw e

pub rule : PairRule
rule =
    record {
      coherent = λ video rate o h. rw (pair_in_lem video rate 1 o h (omega arith)) (in_mode_lem video rate o h);
      one = λ clock rate den h. one clock rate den (reference_some rate h);
      others = λ video rate o h. pair_in_lem video rate 0 o h (omega arith);
    }
