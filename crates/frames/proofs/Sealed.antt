-- The checksum's promise. Assumes nothing.
use Rattle.std.proofs.Common.{◌≡◌, ℕ, ◌+◌, List, ◌∷◌, ◌++◌, arith}
use Rattle.frames.specs.Frames.{total, checksum_of}
use Rattle.frames.specs.Theorems.{Checksum}
use Rattle.frames.proofs.Total.{total_append}

sums : (header payload : List ℕ) (c : ℕ) → total (header ++ c ∷ payload) ≡ c + total (header ++ payload)
unfolding total
sums header payload c = omega (arith, total_append header (c ∷ payload), total_append header payload)

pub holds : Checksum
holds =
    record {
      zero = λ header payload. rw (sums header payload (checksum_of (header ++ payload))) (omega arith);
      byte = λ bytes. omega arith;
      only = λ bytes c h e. omega arith;
      already = λ bytes e. omega arith;
    }
