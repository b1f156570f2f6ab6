-- What is proved of reading a vendor's list: document 02, request 03.
use Rattle.std.specs.Prelude.{◌≡◌, ◌↔◌, ◌≢◌, List, ℕ}
use Rattle.refusals.specs.Rows.{Given}
use Rattle.chip.specs.declared.Chip.{Chip}
use Rattle.views.specs.Refusals.{Sized}
use Rattle.writes.specs.List.{pairs_of}
use Rattle.plan.specs.Rules.{HoldsUp}
use Rattle.vendor.specs.Vendor.{Passes, FirstBad, WrongLength, vet_rules}
use Rattle.vendor.specs.Found.{vet_of}

-- neither 7 nor 8 nor 14 applies
pub record Readable (s : Chip) (list : List ℕ) : Type 0 where
  pub sized : Sized s
  pub holds : HoldsUp s.image → ⊥
  pub whole : WrongLength list → ⊥

pub record Vetted (s : Chip) (list : List ℕ) : Type 0 where
  -- the lowest of 7, 8, 14, 15 and 16 that applies, and none otherwise
  pub given : Given (vet_rules s list) (vet_of s list).refusal
  -- "accepts exactly if"
  pub accepted : ((vet_of s list).refusal ≡ 0) ↔ (Readable s list × Passes (pairs_of list) s)
  -- "15 with the place of the first bad pair, counted from 0", and with no other number
  pub place : Readable s list → (k : ℕ) → (vet_of s list ≡ record { refusal = 15; place = k }) ↔ FirstBad (pairs_of list) s k
  pub zero : (vet_of s list).refusal ≢ 15 → (vet_of s list).place ≡ 0
