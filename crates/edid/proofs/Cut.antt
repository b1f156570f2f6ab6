-- A collection cut into blocks by their lengths: block by block, as a loop finds them. Assumes nothing.
use mathlib.Core.Path.{◌≡◌, refl, sym, ap, ◌∙◌}
use mathlib.Core.Bool.{Bool, true, false, cond, false≢true}
use mathlib.Core.List.{List, [], ◌∷◌}
use Prim.Native.Nat.{ℕ, zero, suc, ◌+◌, ◌-◌, ◌%◌, ◌/◌, ◌<◌, ◌≤◌}
use native.Mathlib.Omega.{arith}
use native.Mathlib.Nat.{div-one}
use lib.Dec.{leb}
use lib.ListN.{length, take, drop, get_or, length-drop}
use lib.Seq.{drop-drop}
use borrow.Author.Tests.{le-leb, lt-leb}
use Rattle.std.specs.Prelude.{Result, Ok, Err}
use Rattle.std.specs.List.{IsSplitAt}
use Rattle.bits.specs.Merge.{bits_in}
use Rattle.refusals.specs.declared.Refusal.{Refusal}
use Rattle.refusals.specs.declared.Refusal.TheVariants.{EdidBlock}
use Rattle.lists.specs.Find.{some}
use Rattle.lists.proofs.Find.{next}
use Rattle.edid.specs.Screen.{Block, Blocks, past_end, blocks, before, blocks_of, cut_up, data_blocks}
use Rattle.edid.specs.Found.{is_past}
use Rattle.edid.specs.Code.{Answers}

-- the low bits of a byte
pub low : (k n : ℕ) → n / 1 % k ≡ n % k
low k n = rw (div-one n)

-- no more blocks than bytes
pub enough : (n m : ℕ) (bytes : List ℕ) → length bytes ≤ n → length bytes ≤ m → cut_up n bytes ≡ cut_up m bytes
unfolding cut_up
enough zero zero bytes h k = refl
enough zero (suc m) [] h k = refl
enough zero (suc m) (head ∷ bytes) h k = absurd (omega arith)
enough (suc n) zero [] h k = refl
enough (suc n) zero (head ∷ bytes) h k = absurd (omega arith)
enough (suc n) (suc m) [] h k = refl
enough (suc n) (suc m) (head ∷ bytes) h k =
    let size : ℕ = bits_in 4 0 head in
    let e = enough n m (drop size bytes) (omega (arith, length-drop size bytes)) (omega (arith, length-drop size bytes)) in
    rw e

-- the first block
abbrev pub first : ℕ → List ℕ → Block
first head bytes = record { tag = bits_in 7 5 head; body = take (head % 32) bytes }

pub begun : (head : ℕ) (bytes : List ℕ) → data_blocks (head ∷ bytes)
    ≡ cond (leb (head % 32) (length bytes)) (before (first head bytes) (data_blocks (drop (head % 32) bytes))) past_end
unfolding cut_up
begun head bytes =
    let e = enough (length bytes) (length (drop (head % 32) bytes)) (drop (head % 32) bytes) (omega (arith, length-drop (head % 32) bytes)) (omega arith) in
    rw (low 32 head, e)

-- at a place
module _ (bytes : List ℕ) (at : ℕ) (h : at < length bytes) where
  head : ℕ
  head = get_or bytes at 0

  left : List ℕ
  left = drop (at + 1) bytes

  from_here : data_blocks (drop at bytes)
      ≡ cond (leb (head % 32) (length left)) (before (first head left) (data_blocks (drop (head % 32) left))) past_end
  unfolding head left
  from_here = ap data_blocks (next bytes at 0 h) ∙ begun (get_or bytes at 0) (drop (at + 1) bytes)

  pub goes_on_lem : get_or bytes at 0 % 32 ≤ length bytes - (at + 1)
      → data_blocks (drop at bytes) ≡ before (first (get_or bytes at 0) (drop (at + 1) bytes)) (data_blocks (drop (at + 1 + get_or bytes at 0 % 32) bytes))
  unfolding head left
  goes_on_lem k = from_here ∙ rw (le-leb (head % 32) (length left) (omega (arith, length-drop (at + 1) bytes)), drop-drop)

-- what is answered of bytes, by the first block of them
module _ (test : Block → Bool) where
  behind_first : (b : Block) (bs : Blocks) (r : Result Bool Refusal) → test b ≡ false → Answers test bs r → Answers test (before b bs) r
  behind_first b past_end r f a = a
  behind_first b (blocks bs) r f a = rw f a

  at_first : (b : Block) (bs : Blocks) → test b ≡ true → Answers test (before b bs) (Ok true)
  at_first b past_end t = λ h. absurd (false≢true (sym (h b) ∙ t))
  at_first b (blocks bs) t = rw t

  pub at_end : (bytes : List ℕ) → length bytes ≡ 0 → Answers test (data_blocks bytes) (Ok false)
  unfolding cut_up
  at_end [] h = refl
  at_end (head ∷ bytes) h = absurd (omega (arith, h))

  module _ (bytes : List ℕ) (head : ℕ) (behind : List ℕ) (e : bytes ≡ head ∷ behind) where
    pub cut_off : length behind < head % 32 → (r : Result Bool Refusal) → r ≡ Err EdidBlock → Answers test (data_blocks bytes) r
    cut_off h r p = rw (e, begun head behind, lt-leb (head % 32) (length behind) h) (λ _. p)

    module _ (small : head < 256) (body rest : List ℕ) (s : IsSplitAt behind (head % 32) body rest) where
      opened : data_blocks bytes ≡ before (record { tag = head / 32; body = body }) (data_blocks rest)
      opened =
          let t : head / 32 % 8 ≡ head / 32 = omega (arith, small) in
          rw (e, begun head behind, le-leb (head % 32) (length behind) s.0, s.1, s.2, t)

      pub found : test (record { tag = head / 32; body = body }) ≡ true → Answers test (data_blocks bytes) (Ok true)
      found t = rw opened (at_first (record { tag = head / 32; body = body }) (data_blocks rest) t)

      pub passed_over : test (record { tag = head / 32; body = body }) ≡ false → (r : Result Bool Refusal) → Answers test (data_blocks rest) r → Answers test (data_blocks bytes) r
      passed_over f r a = rw opened (behind_first (record { tag = head / 32; body = body }) (data_blocks rest) r f a)

-- what is answered of a whole collection; and of one where nothing passes
pub of_whole : (test : Block → Bool) (bs : Blocks) (r : Result Bool Refusal) → is_past bs ≡ false → Answers test bs r → r ≡ Ok (some test (blocks_of bs))
of_whole test past_end r f a = absurd (false≢true (sym f))
of_whole test (blocks bs) r f a = a

pub runs_past : (bs : Blocks) (e : Refusal) → Answers (λ b. false) bs (Err e) → (is_past bs ≡ true) × (e ≡ EdidBlock)
runs_past past_end e a = let h = a (λ b. refl) in (refl, cc)
runs_past (blocks bs) e a = cc

pub all_there : (bs : Blocks) (t : Bool) → Answers (λ b. false) bs (Ok t) → is_past bs ≡ false
all_there past_end t a = let h = a (λ b. refl) in cc
all_there (blocks bs) t a = refl
