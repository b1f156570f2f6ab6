-- A loop that copies one list over the front of another, and what its contract comes to.
--     copy_more, copy_end    one element more, and after the last
--     one_ends               a test for more that fails: one of the two is at its end
--     over_shorter           the front of the first, as far as the shorter goes, and then the rest of the second
--     over_front             where the first is the shorter: its elements, and then the rest of the second
--     over_whole             where the two are as long: the first
--     over_part              a part of a slice over the front
-- Assumes nothing.
use mathlib.Core.Path.{◌≡◌, refl, sym, ap, ◌∙◌}
use mathlib.Core.Logic.{◌⊎◌, inl, inr, ⊎_map}
use mathlib.Core.Bool.{Bool, true, false, ◌&&◌}
use mathlib.Core.List.{List, [], ◌∷◌, ◌++◌, append-nil}
use Prim.Native.Nat.{ℕ, zero, suc, ◌+◌, ◌-◌, ◌≤◌, ◌<◌, min}
use native.Mathlib.Nat.{not-suc-le-zero, le_of_suc-le-suc}
use native.Mathlib.Numerals.{add-one}
use native.Mathlib.Omega.{arith}
use lib.Dec.{ltb}
use lib.ListN.{length, get_or, take, drop, set, drop_of_length-le, length-drop}
use lib.Seq.{take-suc, take_all, drop-cons, set_at, append_snoc, length-take-le}
use borrow.Author.Tests.{ltb-true, ltb-false}
use Rattle.lists.specs.Over.{over}

pub copy_more : (s d : List ℕ) (i : ℕ) → i < length d → i < length s
    → set (take i s ++ drop i d) i (get_or s i 0) ≡ take (i + 1) s ++ drop (i + 1) d
copy_more s d i hd hs =
    rw (add-one, drop-cons d i 0, take-suc s i 0, set_at (take i s) (get_or d i 0) (drop (suc i) d) (get_or s i 0) i (length-take-le i s (omega arith)), append_snoc)

pub copy_end : (s d : List ℕ) (i : ℕ) → i ≤ length s → i ≤ length d → (length s ≤ i) ⊎ (length d ≤ i) → take i s ++ drop i d ≡ over s d
copy_end [] d zero hs hd e = refl
copy_end [] d (suc i) hs hd e = absurd (not-suc-le-zero hs)
copy_end (x ∷ s) [] zero hs hd e = refl
copy_end (x ∷ s) [] (suc i) hs hd e = absurd (not-suc-le-zero hd)
copy_end (x ∷ s) (y ∷ d) zero hs hd (inl e) = absurd (not-suc-le-zero e)
copy_end (x ∷ s) (y ∷ d) zero hs hd (inr e) = absurd (not-suc-le-zero e)
copy_end (x ∷ s) (y ∷ d) (suc i) hs hd e =
    ap (λ (l : List ℕ). x ∷ l) (copy_end s d i (le_of_suc-le-suc hs) (le_of_suc-le-suc hd) (⊎_map le_of_suc-le-suc le_of_suc-le-suc e))

pub one_ends : (i m n : ℕ) → (ltb i m && ltb i n) ≡ false → (m ≤ i) ⊎ (n ≤ i)
one_ends i m n e = go (ltb i m) refl e
  where
    go : (b : Bool) → ltb i m ≡ b → (b && ltb i n) ≡ false → (m ≤ i) ⊎ (n ≤ i)
    go true p e = inr (ltb-false i n e)
    go false p e = inl (ltb-false i m p)

-- as far as the shorter of the two goes
pub over_shorter : (s d : List ℕ) (n : ℕ) → n ≡ min (length s) (length d) → take n s ++ drop n d ≡ over s d
over_shorter s d n e = copy_end s d n (omega arith) (omega arith) (go (ltb (length s) (length d)) refl)
  where
    go : (b : Bool) → ltb (length s) (length d) ≡ b → (length s ≤ n) ⊎ (length d ≤ n)
    go true p = let h = ltb-true _ _ p in inl (omega arith)
    go false p = let h = ltb-false _ _ p in inr (omega arith)

pub over_front : (s d : List ℕ) → length s ≤ length d → over s d ≡ s ++ drop (length s) d
over_front s d h = sym (copy_end s d (length s) (omega arith) h (inl (omega arith))) ∙ rw (take_all (length s) s (omega arith))

pub over_whole : (s d : List ℕ) → length s ≡ length d → over s d ≡ s
over_whole s d h = over_front s d (omega arith) ∙ (let e : length d ≤ length s = omega arith in rw (drop_of_length-le d e) (append-nil s))

-- a part of a slice, as code takes it, over the front
pub over_part : (s d : List ℕ) (at n : ℕ) → at + n ≤ length s → n ≤ length d → over (take (at + n - at) (drop at s)) d ≡ take n (drop at s) ++ drop n d
over_part s d at n h k =
    let e : at + n - at ≡ n = omega arith in
    let l : length (take n (drop at s)) ≡ n = length-take-le n (drop at s) (simp length-drop (omega arith)) in
    ap (λ (m : ℕ). over (take m (drop at s)) d) e ∙ over_front (take n (drop at s)) d (omega (arith, l)) ∙ rw l
