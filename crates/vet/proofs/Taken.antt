-- The parts of an input, one that ends before its list, and one that is longer than any. Assumes nothing.
use mathlib.Core.Path.{◌≡◌, refl, sym, ap, ◌∙◌}
use mathlib.Core.Bool.{Bool, true, false, cond, not, ◌||◌}
use mathlib.Core.List.{List, [], ◌∷◌, ◌++◌}
use Prim.Native.Nat.{ℕ, ◌+◌, ◌-◌, ◌*◌, ◌%◌, ◌<◌, ◌≤◌}
use native.Mathlib.Nat.{add-zero}
use native.Mathlib.Omega.{arith}
use lib.Dec.{eqb, leb, ltb}
use lib.ListN.{length, get_or, take, drop, take-append-drop, length-append, length-drop, get_or-append}
use lib.Seq.{take_all, drop-drop, take-add, take_at, drop_at, get_or_at, take-append-le, drop-append-le, append_snoc, length-take-le}
use Rattle.std.proofs.lemmas.List.{get_or-drop}
use borrow.Author.Tests.{eqb-false, lt-ltb, le-ltb, leb-true, leb-false}
use Rattle.chip.specs.declared.Chip.{Chip}
use Rattle.chip.specs.Write.{lent_as}
use Rattle.views.specs.Entry.{is_sized, marked}
use Rattle.writes.specs.List.{pairs_of, ready}
use Rattle.writes.proofs.Pairs.{length_pairs}
use Rattle.vendor.specs.Numbered.{Verdict}
use Rattle.vendor.specs.Vendor.{most_pairs}
use Rattle.vendor.specs.Found.{place_of, vet_refusal, vet_of}
use Rattle.vet.specs.Input.{state_in, verdict_of, longest_input, Inputs}

-- what is behind pieces of an input, taken off one after another
pub pieces : (i j k m n o one : ℕ) (input b d e : List ℕ) → i + j ≡ m → m + k ≡ n → n + one ≡ o → b ≡ drop i input → d ≡ drop j b → e ≡ drop k d
    → (d ≡ drop m input) × (get_or e 0 0 ≡ get_or input n 0) × (take (length e - one) (drop one e) ≡ drop o input)
pieces i j k m n o one input b d e im mn om be de ee =
    let d' : d ≡ drop m input = rw (de, be, ← im) (drop-drop j i input) in
    let e' : e ≡ drop n input = rw (ee, d', ← mn) (drop-drop k m input) in
    let l : drop one e ≡ drop o input = rw (e', ← om) (drop-drop one n input) in
    (d', rw (e', get_or-drop n input 0 0, add-zero), rw l (take_all _ (drop o input) (omega (arith, ap length e', length-drop n input, length-drop o input))))

-- an input in two: the bytes before the list, and the list
in_two : (p l : List ℕ) → length p ≡ 313 → verdict_of (p ++ l) ≡ vet_of (state_in p) l
in_two p l h =
    let a : 32 ≤ length (drop 256 p) = omega (arith, length-drop 256 p) in
    let b : 24 ≤ length (drop 288 p) = omega (arith, length-drop 288 p) in
    let n : 313 ≤ length (p ++ l) = omega (arith, length-append p l) in
    rw (le-ltb _ _ n, take-append-le 256 p l (omega arith), drop-append-le 256 p l (omega arith), drop-append-le 288 p l (omega arith), drop_at p l 313 h, take-append-le 32 (drop 256 p) l a, take-append-le 24 (drop 288 p) l b, get_or-append p l 0 312 (omega arith))

parts : (i k c l : List ℕ) (m : ℕ) → length i ≡ 256 → length k ≡ 32 → length c ≡ 24
    → verdict_of (i ++ k ++ c ++ m ∷ l) ≡ vet_of (lent_as i k c (marked m)) l
parts i k c l m hi hk hc =
    let one = m ∷ [] in
    let n : length (i ++ k) ≡ 288 = omega (arith, length-append i k) in
    let o : length (k ++ c) ≡ 56 = omega (arith, length-append k c) in
    let p : length (i ++ k ++ c) ≡ 312 = omega (arith, length-append (i ++ k) c) in
    let q : length (i ++ k ++ c ++ one) ≡ 313 = omega (arith, length-append (i ++ k ++ c) one) in
    ap verdict_of (sym (append_snoc (i ++ k ++ c) m l)) ∙ in_two (i ++ k ++ c ++ one) l q
    ∙ rw (take-append-le 256 (i ++ k ++ c) one (omega arith), take-append-le 256 (i ++ k) c (omega arith), take_at i k 256 hi, drop-append-le 256 (i ++ k ++ c) one (omega arith), drop-append-le 256 (i ++ k) c (omega arith), drop_at i k 256 hi, take-append-le 32 (k ++ c) one (omega arith), take_at k c 32 hk, drop-append-le 288 (i ++ k ++ c) one (omega arith), drop_at (i ++ k) c 288 n, take_at c one 24 hc, get_or_at (i ++ k ++ c) m [] 0 312 p)

short : (l : List ℕ) → length l < 313 → verdict_of l ≡ record { refusal = 7; place = 0 }
short l h = rw (lt-ltb _ _ h)

-- a list that is too long
too_long : (l : List ℕ) → 2 * most_pairs < length l → (eqb (length l % 2) 1 || ltb most_pairs (length (pairs_of l))) ≡ true
too_long l h = go (eqb (length l % 2) 1) refl
  where
    go : (b : Bool) → eqb (length l % 2) 1 ≡ b → (b || ltb most_pairs (length (pairs_of l))) ≡ true
    go true e = refl
    go false e =
        let n : (length l % 2 ≡ 1) → ⊥ = eqb-false (length l % 2) 1 e in
        lt-ltb most_pairs (length (pairs_of l)) (omega (arith, length_pairs l))

-- 7, 8 or 14: no place
no_place : (a b : Bool) (k m : ℕ)
    → ◌≡◌ {A = Verdict} (record { refusal = cond a 7 (cond b 8 14); place = cond (eqb (cond a 7 (cond b 8 14)) 15) k 0 })
    (record { refusal = cond a 7 (cond b 8 14); place = cond (eqb (cond a 7 (cond b 8 14)) 15) m 0 })
no_place true b k m = refl
no_place false true k m = refl
no_place false false k m = refl

both_too_long : (s : Chip) (l m : List ℕ) → 2 * most_pairs < length l → 2 * most_pairs < length m → vet_of s l ≡ vet_of s m
unfolding vet_of vet_refusal
both_too_long s l m h k =
    rw (too_long l h, too_long m k) (no_place (not (is_sized s)) (not (ready s.image)) (place_of (pairs_of l) s) (place_of (pairs_of m) s))

cut : (l : List ℕ) (n : ℕ) → longest_input < n → verdict_of (take n l) ≡ verdict_of l
cut l n h = go (leb (length l) n) refl
  where
    go : (b : Bool) → leb (length l) n ≡ b → verdict_of (take n l) ≡ verdict_of l
    go true e = ap verdict_of (take_all n l (leb-true (length l) n e))
    go false e =
        let k : n < length l = leb-false (length l) n e in
        let p = take 313 l in
        let q = drop 313 l in
        let m = n - 313 in
        let d : length q ≡ length l - 313 = length-drop 313 l in
        let hp : length p ≡ 313 = length-take-le 313 l (omega arith) in
        let hm : length (take m q) ≡ m = length-take-le m q (omega arith) in
        let hn : 313 + m ≡ n = omega arith in
        ap verdict_of (ap (λ (x : ℕ). take x l) (sym hn) ∙ take-add 313 m l) ∙ in_two p (take m q) hp
        ∙ both_too_long (state_in p) (take m q) q (omega arith) (omega arith)
        ∙ sym (in_two p q hp) ∙ ap verdict_of (take-append-drop 313 l)

pub inputs : (input : List ℕ) → Inputs input
inputs input =
    record {
      parts = λ i k c m l hi hk hc e. ap verdict_of e ∙ parts i k c l m hi hk hc;
      short = short input;
      enough = cut input;
    }
