-- Document 01, "N and CTS": "Each clock ratio is brought to lowest terms", and document 02, request 05: by "halving and subtraction only",
-- where document 01 has Euclid's rule. `Lowest` is to be believed, and is what the code promises (`Reduces`). `steps` is how the definitions
-- find it, by Euclid's rule; the code goes another way, and `LowestTerms` says that there is nothing else to find.
use Rattle.std.specs.Prelude.{◌≡◌, ℕ, ◌*◌, ◌<◌}
use Rattle.std.specs.Int.{◌∣◌}
use Rattle.ratio.specs.declared.Ratio.{Ratio}
use Rattle.ratio.specs.Terms.{top_of, bottom_of}

-- the fraction num / den in lowest terms is u / v
pub record Lowest (num den u v : ℕ) : Type 0 where
  pub same : num * v ≡ u * den
  pub lowest : (d : ℕ) → d ∣ u → d ∣ v → d ≡ 1

-- what is answered: zeros where den is 0, for num / 0 is no fraction
pub record Reduces (num den : ℕ) (r : Ratio) : Type 0 where
  pub some : 0 < den → Lowest num den r.u r.v
  pub none : den ≡ 0 → (r.u ≡ 0) × (r.v ≡ 0)

-- a fraction has lowest terms, and only these
pub record LowestTerms : Type 0 where
  pub reached : (num den : ℕ) → 0 < den → Lowest num den (top_of num den) (bottom_of num den)
  pub only : (num den u v : ℕ) → 0 < den → Lowest num den u v → (u ≡ top_of num den) × (v ≡ bottom_of num den)
