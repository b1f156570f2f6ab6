-- Bytes stored: a slice copied to its place, and groups of stores after one another. `sets d at xs` of lib.Seq is d with xs stored from index at.
-- Assumes nothing.
use mathlib.Core.Path.{◌≡◌, refl, sym, ap, ◌∙◌}
use mathlib.Core.Bool.{Bool, true, false}
use mathlib.Core.List.{List, [], ◌∷◌, ◌++◌}
use Prim.Native.Nat.{ℕ, suc, ◌+◌, ◌-◌, ◌<◌, ◌≤◌}
use native.Mathlib.Omega.{arith}
use lib.Dec.{ltb}
use lib.ListN.{length, get_or, set, take, drop, length-drop, drop_of_length-le, get_or-eq_default}
use lib.Seq.{sets, sets-eq, take_all, drop-drop}
use borrow.Author.Tests.{ne_eqb, ltb-true, ltb-false}
use Rattle.std.proofs.lemmas.List.{append_assoc, append-nil}
use borrow.Rule.Slice.PartMut.{put_mid}
use Rattle.lists.specs.Find.{every}
use Rattle.lists.specs.Over.{over}
use Rattle.lists.proofs.Copied.{over_front}
use Rattle.lists.proofs.Both.{both_left, both_right}
use Rattle.chip.specs.Machine.{Write}
use Rattle.writes.specs.List.{column}
use Rattle.writes.proofs.Image.{column_length, column_at}
use Rattle.plan.specs.Places.{Place}
use Rattle.plan.specs.Wanted.{placed_at, laid_bytes, stores}

-- a slice copied to its place
pub body_laid : (d body : List ℕ) (at k : ℕ) → k ≡ length d - at → at + length body ≤ length d
    → put_mid at k d (over body (take k (drop at d))) ≡ sets d at body
body_laid d body at k e h =
    let n : length (drop at d) ≤ k = omega (arith, length-drop at d) in
    let m : length body ≤ length (drop at d) = omega (arith, length-drop at d) in
    simp (take_all k (drop at d) n, over_front body (drop at d) m, drop_of_length-le (drop at d) n, append-nil, sets-eq body d at h, append_assoc, drop-drop)

pub stores_laid : (bytes out : List ℕ) (at : ℕ) → stores out (laid_bytes at bytes) ≡ sets out at bytes
stores_laid [] out at = refl
stores_laid (b ∷ bytes) out at = stores_laid bytes (set out at b) (suc at)

pub stores_append : (xs ys : List Write) (out : List ℕ) → stores out (xs ++ ys) ≡ stores (stores out xs) ys
stores_append [] ys out = refl
stores_append (x ∷ xs) ys out = stores_append xs ys (set out x.address x.value)

-- stores after stores
pub more : (out : List ℕ) {one two : List ℕ} (xs ys : List Write) → one ≡ stores out xs → two ≡ stores one ys → two ≡ stores out (xs ++ ys)
more out xs ys p q = q ∙ ap (λ (l : List ℕ). stores l ys) p ∙ sym (stores_append xs ys out)

-- a part that goes to the end
pub rest : (n : ℕ) (l : List ℕ) → length l ≤ n + 1 → take n (drop 1 l) ≡ drop 1 l
rest n l h = take_all n (drop 1 l) (simp length-drop (omega arith))

-- ---- a column of what rows place

-- past the last register there is no row
beyond : (rows : List Place) (a : ℕ) → every (λ f. ltb f.address 256) rows ≡ true → 256 ≤ a → placed_at a rows ≡ 0
beyond [] a t h = refl
beyond (f ∷ rows) a t h =
    let l : f.address < 256 = ltb-true _ _ (both_left _ (every (λ f. ltb f.address 256) rows) t) in
    rw (ne_eqb a f.address (omega arith)) (beyond rows a (both_right (ltb f.address 256) _ t) h)

pub in_column : (rows : List Place) (a : ℕ) → every (λ f. ltb f.address 256) rows ≡ true → get_or (column (λ b. placed_at b rows)) a 0 ≡ placed_at a rows
in_column rows a t = go (ltb a 256) refl
  where
    go : (b : Bool) → ltb a 256 ≡ b → get_or (column (λ b. placed_at b rows)) a 0 ≡ placed_at a rows
    go true e = column_at (λ b. placed_at b rows) a (ltb-true _ _ e)
    go false e =
        let h : 256 ≤ a = ltb-false _ _ e in
        get_or-eq_default (column (λ b. placed_at b rows)) 0 (rw (column_length (λ b. placed_at b rows)) h) ∙ sym (beyond rows a t h)
