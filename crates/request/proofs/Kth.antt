-- The body of section k by the places that the code's walk answers, over any number of sections: its count stands where the body before it
-- ends. Assumes nothing.
use mathlib.Core.Path.{◌≡◌, subst}
use mathlib.Core.List.{List, [], ◌∷◌, ◌++◌, append_assoc}
use Prim.Native.Nat.{ℕ, zero, suc, ◌+◌, ◌-◌, ◌≤◌, ◌<◌}
use native.Mathlib.Omega.{arith}
use lib.ListN.{length, take, drop, get_or, length-append}
use lib.Seq.{take-append_seam, drop-append-add}
use Rattle.request.specs.Bytes.{laid}
use Rattle.request.specs.Places.{ends_from}

-- where the count of section k stands, and where its body ends
abbrev pub count_at : ℕ → List (List ℕ) → ℕ → ℕ
count_at place bodies k = get_or (place ∷ ends_from place bodies) k 0

abbrev pub end_at : ℕ → List (List ℕ) → ℕ → ℕ
end_at place bodies k = get_or (ends_from place bodies) k 0

pub in_bounds : (place : ℕ) (bodies : List (List ℕ)) (rest : List ℕ) (k : ℕ) → k < length bodies
    → (count_at place bodies k < end_at place bodies k) × (end_at place bodies k ≤ place + length (laid bodies rest))
in_bounds place [] rest k h = absurd (omega arith)
in_bounds place (b ∷ bodies) rest zero h = (omega arith, omega (arith, length-append b (laid bodies rest)))
in_bounds place (b ∷ bodies) rest (suc k) h =
    let i = in_bounds (place + suc (length b)) bodies rest k (omega arith) in
    (i.0, omega (arith, i.1, length-append b (laid bodies rest)))

abbrev between : ℕ → List (List ℕ) → ℕ → List ℕ → List ℕ
between place bodies k s = take (end_at place bodies k - suc (count_at place bodies k)) (drop (suc (count_at place bodies k)) s)

pub kth : (pre : List ℕ) (bodies : List (List ℕ)) (rest : List ℕ) (k : ℕ) → k < length bodies
    → between (length pre) bodies k (pre ++ laid bodies rest) ≡ get_or bodies k []
kth pre [] rest k h = absurd (omega arith)
kth pre (b ∷ bodies) rest zero h =
    let d : drop (length pre + 1) (pre ++ (length b ∷ (b ++ laid bodies rest))) ≡ b ++ laid bodies rest = drop-append-add pre (length b ∷ (b ++ laid bodies rest)) 1 in
    let n : length pre + suc (length b) - suc (length pre) ≡ length b = omega arith in
    let s : suc (length pre) ≡ length pre + 1 = omega arith in
    rw (n, s, d) (take-append_seam b (laid bodies rest))
kth pre (b ∷ bodies) rest (suc k) h =
    let l : length (pre ++ (length b ∷ b)) ≡ length pre + suc (length b) = length-append pre (length b ∷ b) in
    subst (λ (p : ℕ). between p bodies k (pre ++ (length b ∷ (b ++ laid bodies rest))) ≡ get_or bodies k []) l
    (subst (λ (t : List ℕ). between (length (pre ++ (length b ∷ b))) bodies k t ≡ get_or bodies k []) (append_assoc pre (length b ∷ b) (laid bodies rest))
    (kth (pre ++ (length b ∷ b)) bodies rest k (omega arith)))
