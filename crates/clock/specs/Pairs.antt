-- Document 01, "N and CTS": what a pair for coherent audio is, and which one is given.
use Rattle.std.specs.Prelude.{◌≡◌, ◌↔◌, ◌≢◌, cond, List, [], ◌∷◌, ℕ, ◌+◌, ◌-◌, ◌*◌, ◌≤◌, eqb, get_or}
use Rattle.sound.specs.Rates.{hertz_of}
use Rattle.clock.specs.Numbered.{Clock}
use Rattle.clock.specs.declared.NCts.{NCts}
use Rattle.clock.specs.Numbered.{Pair}
use Rattle.clock.specs.Tables.{pair, Recommended, recommended}

-- 128·fs
unfoldable pub reference : ℕ → ℕ
reference rate = 128 * hertz_of rate

-- an exact pair within the range: "128·fs = clock·N/CTS, and N lies between 128·fs/1500 and 128·fs/300, ends included. CTS is at most
-- 1,048,575. A pair is exact when CTS is whole and the equation holds." The equation is multiplied out; a CTS of ℕ is whole.
pub record Exact (clock : Clock) (rate n cts : ℕ) : Type 0 where
  pub equation : reference rate * cts * clock.den ≡ clock.num * n
  pub least : reference rate ≤ 1500 * n
  pub most : 300 * n ≤ reference rate
  pub fits : cts ≤ 1048575

-- row 9, "coherent audio, and no exact pair exists"
abbrev pub NoExact : Clock → ℕ → ℕ → Type 0
NoExact clock rate coherent = (coherent ≡ 1) × ((n cts : ℕ) → Exact clock rate n cts → ⊥)

-- the recommended pair for that clock and rate: that of the row whose clock is this one; N 0 where there is none
abbrev pub recommended_in : List Recommended → Clock → ℕ → NCts
recommended_in [] clock rate = pair 0 0
recommended_in (r ∷ rs) clock rate =
    cond (eqb (clock.num * r.den) (r.num * clock.den)) (pair (get_or r.n rate 0) (get_or r.cts rate 0)) (recommended_in rs clock rate)

unfoldable pub recommended_of : Clock → ℕ → NCts
recommended_of = recommended_in recommended

-- how far N lies from 128·fs/1000, in thousandths
abbrev pub far : ℕ → ℕ → ℕ
far rate n = (1000 * n - reference rate) + (reference rate - 1000 * n)

-- which pair is given for coherent audio
pub record Coherent (clock : Clock) (rate : ℕ) (answer : Pair) : Type 0 where
  -- "if no exact pair exists, refusal 9"
  pub refused : (answer.refusal ≡ 9) ↔ ((n cts : ℕ) → Exact clock rate n cts → ⊥)
  -- and then N and CTS are 0
  pub nothing : answer.refusal ≡ 9 → (answer.n ≡ 0) × (answer.cts ≡ 0)
  -- else there is no refusal, and the pair is exact
  pub exact : answer.refusal ≢ 9 → (answer.refusal ≡ 0) × Exact clock rate answer.n answer.cts
  -- "the recommended pair .., if there is one and it is exact"
  pub recommended : Exact clock rate (recommended_of clock rate).n (recommended_of clock rate).cts
      → (answer.n ≡ (recommended_of clock rate).n) × (answer.cts ≡ (recommended_of clock rate).cts)
  -- "otherwise the exact pair whose N is nearest to 128·fs/1000, the smaller N on a tie"
  pub nearest : (Exact clock rate (recommended_of clock rate).n (recommended_of clock rate).cts → ⊥)
      → (n cts : ℕ) → Exact clock rate n cts
      → (far rate answer.n ≤ far rate n) × (far rate answer.n ≡ far rate n → answer.n ≤ n)
