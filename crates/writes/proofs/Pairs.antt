-- Pairs as bytes, and back. Assumes nothing.
use mathlib.Core.Path.{◌≡◌, refl, ap, ap₂, ◌∙◌}
use mathlib.Core.List.{List, [], ◌∷◌}
use Prim.Native.Nat.{ℕ, zero, suc, ◌+◌, ◌*◌, ◌/◌, ◌<◌}
use native.Mathlib.Nat.{not-suc-le-zero, le_of_suc-le-suc}
use native.Mathlib.Omega.{arith}
use lib.ListN.{length, get_or}
use Rattle.chip.specs.Machine.{Write, ◌gets◌}
use Rattle.writes.specs.List.{flat, pairs_of}

pub length_flat : (ws : List Write) → length (flat ws) ≡ 2 * length ws
unfolding flat
length_flat [] = refl
length_flat (w ∷ ws) = omega (arith, length_flat ws)

-- the pairs of a list's bytes are the list
pub pairs_flat : (ws : List Write) → pairs_of (flat ws) ≡ ws
unfolding flat
pairs_flat [] = refl
pairs_flat (w ∷ ws) = ap (λ (l : List Write). w ∷ l) (pairs_flat ws)

-- how many pairs some bytes have, and each of them
pub length_pairs : (l : List ℕ) → length (pairs_of l) ≡ length l / 2
length_pairs [] = refl
length_pairs (a ∷ []) = refl
length_pairs (a ∷ v ∷ l) = omega (arith, length_pairs l)

pub pair_at_lem : (l : List ℕ) (i : ℕ) → i < length (pairs_of l) → get_or (pairs_of l) i (0 gets 0) ≡ get_or l (2 * i) 0 gets get_or l (2 * i + 1) 0
pair_at_lem [] i h = absurd (not-suc-le-zero h)
pair_at_lem (a ∷ []) i h = absurd (not-suc-le-zero h)
pair_at_lem (a ∷ v ∷ l) zero h = refl
pair_at_lem (a ∷ v ∷ l) (suc i) h =
    let p : suc (suc (2 * i)) ≡ 2 * suc i = omega arith in
    let q : suc (suc (2 * i + 1)) ≡ 2 * suc i + 1 = omega arith in
    pair_at_lem l i (le_of_suc-le-suc h)
    ∙ ap₂ (λ (m n : ℕ). get_or (a ∷ v ∷ l) m 0 gets get_or (a ∷ v ∷ l) n 0) p q
