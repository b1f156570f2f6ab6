-- A fraction has lowest terms, and only these. Assumes nothing.
use mathlib.Core.Path.{◌≡◌, sym, ◌∙◌, subst}
use Prim.Native.Nat.{ℕ, ◌<◌, ◌∣◌}
use native.Mathlib.Nat.{mul_comm, one-mul, dvd-mul_right}
use Rattle.ratio.specs.Lowest.{Lowest, LowestTerms}
use Rattle.ratio.specs.Terms.{top_of, bottom_of}
use Rattle.ratio.proofs.Divisor.{in_lowest}
use Rattle.ratio.proofs.Multiples.{multiple}

pub only : (num den u v : ℕ) → 0 < den → Lowest num den u v → (u ≡ top_of num den) × (v ≡ bottom_of num den)
only num den u v h l =
    let w = multiple num den h v u (mul_comm den u ∙ sym l.same) in
    let k : ℕ = w.0 in
    let ku : k ∣ u = subst (λ (x : ℕ). k ∣ x) (sym w.2) (dvd-mul_right k (top_of num den)) in
    let kv : k ∣ v = subst (λ (x : ℕ). k ∣ x) (sym w.1) (dvd-mul_right k (bottom_of num den)) in
    let one : k ≡ 1 = l.lowest k ku kv in
    (w.2 ∙ rw one (one-mul _), w.1 ∙ rw one (one-mul _))

pub holds : LowestTerms
holds = record { reached = in_lowest; only = only }
