-- A collection is these blocks exactly where they make its bytes, and else one runs past its end. Assumes nothing.
use mathlib.Core.Path.{◌≡◌, refl, sym, ap, subst, ◌∙◌}
use mathlib.Core.Bool.{Bool, true, false, cond}
use mathlib.Core.List.{List, [], ◌∷◌, ◌++◌, append_assoc}
use Prim.Native.Nat.{ℕ, zero, suc, ◌+◌, ◌*◌, ◌/◌, ◌%◌, ◌≤◌, ◌<◌}
use native.Mathlib.Omega.{arith}
use native.Mathlib.Nat.{mul-add-div, div-eq_of_lt, div-add-mod}
use lib.Dec.{leb, ltb}
use lib.ListN.{length, take, drop, length-append, length-drop, take-append-drop}
use lib.Seq.{take-append_seam, drop-append_seam, length-take-le, get_or-drop}
use borrow.Author.Tests.{leb-true, leb-false, le-leb, lt-leb, ltb-true, lt-ltb}
use Rattle.lists.specs.Find.{every}
use Rattle.lists.proofs.Both.{both_left, both_right}
use Rattle.bits.specs.Merge.{bits_in}
use Rattle.matrix.specs.Matrix.{Bytes}
use Rattle.edid.specs.Screen.{Block, Blocks, past_end, blocks, before, cut_up, data_blocks}
use Rattle.edid.specs.Theorems.{laid_blocks, is_block, RunsPast, DataBlocks}
use Rattle.edid.proofs.Cut.{low, first, begun}

-- the lowest byte, and those behind some
tail : (k x : ℕ) (bytes : List ℕ) → Bytes (x ∷ bytes) → Bytes (drop k bytes)
tail k x bytes b i = rw (get_or-drop k bytes i 0) (b (suc (k + i)))

-- what is found says what stands in the bytes
abbrev Said : List ℕ → Blocks → Type 0
Said bytes past_end = RunsPast bytes
Said bytes (blocks bs) = (every is_block bs ≡ true) × (bytes ≡ laid_blocks bs)

module _ (head : ℕ) (bytes : List ℕ) (small : head < 256) (room : head % 32 ≤ length bytes) where
  abbrev size : ℕ
  size = head % 32

  abbrev b : Block
  b = first head bytes

  sized : length (take size bytes) ≡ size
  sized = length-take-le size bytes room

  one : is_block b ≡ true
  one =
      let t : head / 32 % 8 < 8 = omega arith in
      let l : length (take size bytes) < 32 = omega (arith, sized) in
      rw (lt-ltb (head / 32 % 8) 8 t, lt-ltb (length (take size bytes)) 32 l)

  headed : head ≡ 32 * (head / 32 % 8) + length (take size bytes)
  headed = omega (arith, sized, small)

  parted : bytes ≡ take size bytes ++ drop size bytes
  parted = sym (take-append-drop size bytes)

  in_front_lem : (bs : Blocks) → Said (drop size bytes) bs → Said (head ∷ bytes) (before b bs)
  in_front_lem past_end r =
      record {
        front = b ∷ r.front;
        each = rw one r.each;
        head = r.head;
        left = r.left;
        made = ap (λ (h : ℕ). h ∷ bytes) headed ∙ ap (λ (l : List ℕ). (32 * (head / 32 % 8) + length (take size bytes)) ∷ l)
            (parted ∙ ap (λ (l : List ℕ). take size bytes ++ l) r.made ∙ sym (append_assoc (take size bytes) (laid_blocks r.front) (r.head ∷ r.left)));
        past = r.past;
      }
  in_front_lem (blocks bs) r = (
    rw one r.0,
    ap (λ (h : ℕ). h ∷ bytes) headed ∙ ap (λ (l : List ℕ). (32 * (head / 32 % 8) + length (take size bytes)) ∷ l) (parted ∙ ap (λ (l : List ℕ). take size bytes ++ l) r.1),
  )

said : (n : ℕ) (bytes : List ℕ) → length bytes ≤ n → Bytes bytes → Said bytes (data_blocks bytes)
unfolding cut_up
said zero [] h f = (refl, refl)
said zero (head ∷ bytes) h f = absurd (omega arith)
said (suc n) [] h f = (refl, refl)
said (suc n) (head ∷ bytes) h f =
    subst (Said (head ∷ bytes)) (sym (begun head bytes))
    (go (leb (head % 32) (length bytes)) refl (said n (drop (head % 32) bytes) (omega (arith, length-drop (head % 32) bytes)) (tail (head % 32) head bytes f)))
  where
    go : (t : Bool) → leb (head % 32) (length bytes) ≡ t → Said (drop (head % 32) bytes) (data_blocks (drop (head % 32) bytes))
        → Said (head ∷ bytes) (cond t (before (first head bytes) (data_blocks (drop (head % 32) bytes))) past_end)
    go true e r = in_front_lem head bytes (f 0) (leb-true _ _ e) (data_blocks (drop (head % 32) bytes)) r
    go false e r = record { front = []; each = refl; head = head; left = bytes; made = refl; past = rw (low 32 head) (leb-false _ _ e) }

-- a tag and a length in one byte
quotient : (t l : ℕ) → l < 32 → (32 * t + l) / 32 ≡ t
quotient t l h = mul-add-div {m = 32} (omega arith) t l ∙ omega (arith, div-eq_of_lt {n = l} {m = 32} h)

remainder : (t l : ℕ) → l < 32 → (32 * t + l) % 32 ≡ l
remainder t l h = omega (arith, quotient t l h, div-add-mod (32 * t + l) 32)

eighth : (t : ℕ) → t < 8 → t % 8 ≡ t
eighth t h = omega arith

-- and back: blocks, one behind the other, are found
opened : (b : Block) (rest : List ℕ) → is_block b ≡ true → data_blocks ((32 * b.tag + length b.body) ∷ (b.body ++ rest)) ≡ before b (data_blocks rest)
opened b rest t =
    let k : b.tag < 8 = ltb-true b.tag 8 (both_left (ltb b.tag 8) (ltb (length b.body) 32) t) in
    let l : length b.body < 32 = ltb-true (length b.body) 32 (both_right (ltb b.tag 8) (ltb (length b.body) 32) t) in
    let s : (32 * b.tag + length b.body) % 32 ≡ length b.body = remainder b.tag (length b.body) l in
    let g : (32 * b.tag + length b.body) / 32 % 8 ≡ b.tag = ap (λ (n : ℕ). n % 8) (quotient b.tag (length b.body) l) ∙ eighth b.tag k in
    let r : length b.body ≤ length (b.body ++ rest) = omega (arith, length-append b.body rest) in
    begun (32 * b.tag + length b.body) (b.body ++ rest)
    ∙ rw (s, g, le-leb (length b.body) (length (b.body ++ rest)) r, take-append_seam b.body rest, drop-append_seam b.body rest)

found : (bs : List Block) → every is_block bs ≡ true → data_blocks (laid_blocks bs) ≡ blocks bs
unfolding cut_up
found [] t = refl
found (b ∷ bs) t =
    opened b (laid_blocks bs) (both_left (is_block b) (every is_block bs) t) ∙ ap (before b) (found bs (both_right (is_block b) (every is_block bs) t))

ran_past : (front : List Block) → every is_block front ≡ true → (head : ℕ) (left : List ℕ) → length left < bits_in 4 0 head
    → data_blocks (laid_blocks front ++ (head ∷ left)) ≡ past_end
ran_past [] t head left h = begun head left ∙ rw (lt-leb (head % 32) (length left) (rw (low 32 head) at h))
ran_past (b ∷ bs) t head left h =
    ap (λ (l : List ℕ). data_blocks ((32 * b.tag + length b.body) ∷ l)) (append_assoc b.body (laid_blocks bs) (head ∷ left))
    ∙ opened b (laid_blocks bs ++ (head ∷ left)) (both_left (is_block b) (every is_block bs) t)
    ∙ ap (before b) (ran_past bs (both_right (is_block b) (every is_block bs) t) head left h)

pub data_blocks_lem : (bytes : List ℕ) → Bytes bytes → DataBlocks bytes
data_blocks_lem bytes f =
    record {
      whole = λ bs. ((λ e. subst (Said bytes) e (said (length bytes) bytes (omega arith) f)), (λ p. ap data_blocks p.1 ∙ found bs p.0));
      spoiled = ((λ e. subst (Said bytes) e (said (length bytes) bytes (omega arith) f)), (λ r. ap data_blocks r.made ∙ ran_past r.front r.each r.head r.left r.past));
    }
