-- The total of a list, one element more, and of two lists.
-- Assumes nothing.
use Rattle.std.proofs.Common.{◌≡◌, ℕ, ◌+◌, ◌<◌, List, [], ◌∷◌, ◌++◌, length, get_or, set, take, drop, zero-add, ap, ◌∙◌, arith}
use Rattle.frames.specs.Frames.{total, checksum_of, frame}

pub total_append : (xs ys : List ℕ) → total (xs ++ ys) ≡ total xs + total ys
unfolding total
total_append [] ys = omega arith
total_append (x ∷ xs) ys = omega (arith, total_append xs ys)

pub total_push : (xs : List ℕ) (x : ℕ) → total (xs ++ x ∷ []) ≡ total xs + x
unfolding total
total_push xs x = rw (total_append xs (x ∷ [])) (omega arith)

-- a place kept for the checksum by a 0 changes nothing
pub kept : (header payload : List ℕ) → checksum_of (header ++ 0 ∷ payload) ≡ checksum_of (header ++ payload)
unfolding total
kept header payload = rw (total_append header (0 ∷ payload), total_append header payload, zero-add)

-- so a frame may be had of one with a 0 there
pub summed : (bytes : List ℕ) → 3 < length bytes → get_or bytes 3 0 ≡ 0 → set bytes 3 (checksum_of bytes) ≡ frame (take 3 bytes) (drop 4 bytes)
summed [] h z = absurd (omega (arith, h))
summed (a ∷ []) h z = absurd (omega (arith, h))
summed (a ∷ b ∷ []) h z = absurd (omega (arith, h))
summed (a ∷ b ∷ c ∷ []) h z = absurd (omega (arith, h))
summed (a ∷ b ∷ c ∷ k ∷ payload) h z =
    let header : List ℕ = a ∷ b ∷ c ∷ [] in
    ap (λ n. header ++ n ∷ payload) (ap (λ n. checksum_of (header ++ n ∷ payload)) z ∙ kept header payload)
