-- A bus that retries: each event of a run again, any number of times. No paper asks for it.
use Rattle.std.specs.Prelude.{◌≡◌, List, [], ◌∷◌, ◌++◌, ℕ, zero, suc, ◌-◌, ◌<◌, length, replicate}
use Rattle.chip.specs.declared.Chip.{Chip}
use Rattle.cut.specs.Run.{Event, happens, run, cut, event}

-- each event happens, and so often again: n k times the one at place k
abbrev pub retried : (ℕ → ℕ) → List Event → List Event
retried n [] = []
retried n (e ∷ es) = e ∷ replicate (n 0) e ++ retried (λ k. n (suc k)) es

-- the number of events of the list that the first k of these are made of
abbrev pub begun : (ℕ → ℕ) → List Event → ℕ → ℕ
begun n [] k = 0
begun n (e ∷ es) zero = 0
begun n (e ∷ es) (suc k) = suc (begun (λ i. n (suc i)) es (k - n 0))

-- the same states, one after the other, and the same end
pub record Retried (n : ℕ → ℕ) (es : List Event) (s : Chip) : Type 0 where
  pub cuts : (k : ℕ) → cut (retried n es) s k ≡ cut es s (begun n es k)
  pub taken : (k : ℕ) → k < length (retried n es) → (happens (event (retried n es) k) (cut (retried n es) s k)).refusal ≡ 0
  pub ends : run (retried n es) s ≡ run es s
