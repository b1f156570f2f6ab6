-- What no later byte can change: 2 and 3, and nothing else. Assumes nothing.
--     more      2 and 3 stay, whatever follows
--     long      an input longer than the longest request has one of them
--     finals    so these are final, and zeros enough change every other answer
--     deciding  the byte that decides
use mathlib.Core.Path.{◌≡◌, refl, sym, ap, subst, ◌∙◌}
use mathlib.Core.Logic.{◌≢◌, ◌⊎◌, inl, inr}
use mathlib.Core.Bool.{Bool, true, false, cond, ◌||◌}
use mathlib.Core.List.{List, [], ◌∷◌, ◌++◌, append-nil}
use Prim.Native.Nat.{ℕ, zero, suc, ◌≤◌, ◌<◌}
use native.Mathlib.Omega.{arith}
use lib.Dec.{eqb, leb}
use lib.ListN.{length, take, replicate, length-append, length-replicate}
use lib.Seq.{take_all}
use borrow.Author.Tests.{eqb-true, eqb-false, leb-true, leb-false}
use Rattle.matrix.specs.Matrix.{Bytes}
use Rattle.request.specs.Sections.{Walk, ends, not_allowed, whole, walk, walked, sections, longest}
use Rattle.request.specs.Bytes.{laid}
use Rattle.request.specs.Walks.{fits}
use Rattle.request.proofs.Walks.{walks}
use Rattle.request.proofs.Counted.{Counted, counted, within}
use Rattle.pipe.specs.Final.{refusal_of, Final, Finals, Deciding}
use Rattle.pipe.specs.Found.{early}
use Rattle.pipe.proofs.More.{Longer, walk_more, Short, short}
use Rattle.pipe.proofs.Told.{Later, Told, told}

abbrev pub TwoOrThree : ℕ → Type 0
TwoOrThree n = (n ≡ 2) ⊎ (n ≡ 3)

-- two or three, or neither
pub either : (n : ℕ) → TwoOrThree n ⊎ (TwoOrThree n → ⊥)
either n = go (eqb n 2) refl (eqb n 3) refl
  where
    go : (a : Bool) → eqb n 2 ≡ a → (b : Bool) → eqb n 3 ≡ b → TwoOrThree n ⊎ (TwoOrThree n → ⊥)
    go true e b f = inl (inl (eqb-true n 2 e))
    go false e true f = inl (inr (eqb-true n 3 f))
    go false e false f = inr (neither (eqb-false n 2 e) (eqb-false n 3 f))
      where
        neither : (n ≡ 2 → ⊥) → (n ≡ 3 → ⊥) → TwoOrThree n → ⊥
        neither a b (inl h) = a h
        neither a b (inr h) = b h

not_later : (n : ℕ) → Later n → TwoOrThree n → ⊥
not_later n (inl z, k) (inl e) = omega arith
not_later n (inr h, k) (inl e) = omega arith
not_later n (inl z, k) (inr e) = omega arith
not_later n (inr h, k) (inr e) = omega arith

pub more : (input later : List ℕ) → TwoOrThree (refusal_of input) → refusal_of (input ++ later) ≡ refusal_of input
unfolding walked
more input later e = go (walked input) (told input) (walked (input ++ later)) (walk_more sections input later) (told (input ++ later)) e
  where
    go : {n m : ℕ} (w : Walk) → Told w n → (v : Walk) → Longer w later v → Told v m → TwoOrThree n → m ≡ n
    go ends t v l u (inl e) = absurd (omega (arith, t))
    go ends t v l u (inr e) = absurd (omega (arith, t))
    go {n} {m} not_allowed t v l u e = subst (λ (w : Walk). Told w m) l u ∙ sym t
    go {n} {m} (whole bodies rest) (inl t) v l u e = left (subst (λ (w : Walk). Told w m) l u)
      where
        left : Told (whole bodies (rest ++ later)) m → m ≡ n
        left (inl h) = h.1 ∙ sym t.1
        left (inr h) = absurd (t.0 (omega (arith, length-append rest later, h.0)))
    go {n} (whole bodies rest) (inr t) v l u e = absurd (not_later n t.1 e)

pub long : (input : List ℕ) → longest < length input → TwoOrThree (refusal_of input)
unfolding walked
long input h = go (walked input) (told input) (short sections input) (counted sections input)
  where
    go : {n : ℕ} (w : Walk) → Told w n → Short sections input w → Counted sections (length input) w → TwoOrThree n
    go ends t s c = absurd (omega (arith, s))
    go not_allowed t s c = inl t
    go (whole bodies rest) (inl t) s c = inr t.1
    go (whole bodies rest) (inr t) s c = absurd (omega (arith, t.0, c.0, within sections bodies c.1))

-- the test of the code
pub early_is : (n : ℕ) → TwoOrThree n → early n ≡ n
early_is n (inl e) = rw e
early_is n (inr e) = rw e

is_early : (n : ℕ) → (eqb n 2 || eqb n 3) ≡ true → TwoOrThree n
is_early n t = go (eqb n 2) refl t
  where
    go : (b : Bool) → eqb n 2 ≡ b → (b || eqb n 3) ≡ true → TwoOrThree n
    go true e t = inl (eqb-true n 2 e)
    go false e t = inr (eqb-true n 3 t)

pub early_some : (n : ℕ) → early n ≢ 0 → TwoOrThree n
early_some n = go (eqb n 2 || eqb n 3) refl
  where
    go : (b : Bool) → (eqb n 2 || eqb n 3) ≡ b → cond b n 0 ≢ 0 → TwoOrThree n
    go true t h = is_early n t
    go false t h = absurd (h refl)

pub early_none : (n : ℕ) → early n ≡ 0 → TwoOrThree n → ⊥
early_none n z h = none h (sym (early_is n h) ∙ z)
  where
    none : TwoOrThree n → n ≡ 0 → ⊥
    none (inl e) z = omega arith
    none (inr e) z = omega arith

-- zeros enough change it
zeros : (n : ℕ) → Bytes (replicate n 0)
zeros zero i = omega arith
zeros (suc n) zero = omega arith
zeros (suc n) (suc i) = zeros n i

abbrev enough : List ℕ
enough = replicate (suc longest) 0

in_the_end : (input : List ℕ) → TwoOrThree (refusal_of (input ++ enough))
in_the_end input = long (input ++ enough) (omega (arith, length-append input enough, length-replicate {A = ℕ} (suc longest) 0))

pub final : (input : List ℕ) → TwoOrThree (refusal_of input) → Final input (refusal_of input)
final input e = record { some = some e; unchanged = λ later bytes. more input later e }
  where
    some : TwoOrThree (refusal_of input) → refusal_of input ≢ 0
    some (inl e) z = omega arith
    some (inr e) z = omega arith

-- a final answer is that of the input, and one of these
pub its_own : (input : List ℕ) (n : ℕ) → Final input n → refusal_of input ≡ n
its_own input n f = ap refusal_of (sym (append-nil input)) ∙ f.unchanged [] (λ i. omega arith)

pub one_of_two : (input : List ℕ) (n : ℕ) → Final input n → TwoOrThree (refusal_of input)
one_of_two input n f = subst TwoOrThree (f.unchanged enough (zeros (suc longest)) ∙ sym (its_own input n f)) (in_the_end input)

pub finals : (input : List ℕ) → Finals input
finals input =
    record {
      two = λ e. subst (Final input) e (final input (inl e));
      three = λ e. subst (Final input) e (final input (inr e));
      others = λ a b. record { later = enough; bytes = zeros (suc longest); changed = λ e. other a b (subst TwoOrThree e (in_the_end input)) };
    }
  where
    other : refusal_of input ≢ 2 → refusal_of input ≢ 3 → TwoOrThree (refusal_of input) → ⊥
    other a b (inl e) = a e
    other a b (inr e) = b e

-- the byte that decides, by the sections
abbrev tells : List ℕ → Walk → Type 0
tells input w = Told w (refusal_of input)

from_walk : (input : List ℕ) (w : Walk) → walk sections input ≡ w → tells input w
unfolding walked
from_walk input w e = subst (tells input) e (told input)

pub deciding : (bodies : List (List ℕ)) → Deciding bodies
deciding bodies =
    record {
      count = λ n h f a.
          (finals (laid bodies (n ∷ []))).two
          (from_walk (laid bodies (n ∷ [])) not_allowed
          ((walks sections (laid bodies (n ∷ []))).not_allowed.1 (record {
            begun = record { bodies = bodies; left = n ∷ []; some = h; fitting = f; made = refl };
            present = omega arith;
            refused = a;
          })));
      byte = λ n f. (finals (laid bodies (n ∷ []))).three (too_many n f);
      before = λ h f n e. nothing h f (one_of_two (laid bodies []) n e);
    }
  where
    too_many : (n : ℕ) → fits sections bodies ≡ true → refusal_of (laid bodies (n ∷ [])) ≡ 3
    too_many n f = go (from_walk (laid bodies (n ∷ [])) (whole bodies (n ∷ [])) (((walks sections (laid bodies (n ∷ []))).whole bodies (n ∷ [])).1 (f, refl)))
      where
        go : tells (laid bodies (n ∷ [])) (whole bodies (n ∷ [])) → refusal_of (laid bodies (n ∷ [])) ≡ 3
        go (inl t) = t.1
        go (inr t) = absurd (omega (arith, t.0))

    nothing : length bodies ≤ length sections → fits (take (length bodies) sections) bodies ≡ true → TwoOrThree (refusal_of (laid bodies [])) → ⊥
    nothing h f e = go (leb (length sections) (length bodies)) refl
      where
        go : (b : Bool) → leb (length sections) (length bodies) ≡ b → ⊥
        go true t =
            let all : fits sections bodies ≡ true = subst (λ (l : List (List ℕ)). fits l bodies ≡ true) (take_all (length bodies) sections (leb-true _ _ t)) f in
            last (from_walk (laid bodies []) (whole bodies []) (((walks sections (laid bodies [])).whole bodies []).1 (all, refl)))
          where
            last : tells (laid bodies []) (whole bodies []) → ⊥
            last (inl t) = t.0 refl
            last (inr t) = not_later (refusal_of (laid bodies [])) t.1 e
        go false t = some (from_walk (laid bodies []) ends ((walks sections (laid bodies [])).ends.1 (record {
          begun = record { bodies = bodies; left = []; some = leb-false _ _ t; fitting = f; made = refl };
          there = inl refl;
        }))) e
          where
            some : refusal_of (laid bodies []) ≡ 1 → TwoOrThree (refusal_of (laid bodies [])) → ⊥
            some o (inl e) = omega arith
            some o (inr e) = omega arith
