-- Of an image planning's refusal sees its length and its holds, rows 7 and 8 of `PlanRefusals`, and no other byte.
use Rattle.std.specs.Prelude.{◌≡◌, true, List, [], ◌∷◌, ◌++◌, ℕ, ◌<◌, length}
use Rattle.refusals.specs.Rows.{buffer_short, ◌when◌, Given}
use Rattle.matrix.specs.Matrix.{Bytes}
use Rattle.request.specs.Sections.{walked}
use Rattle.request.specs.Request.{ncts_rules}
use Rattle.writes.specs.List.{ready}
use Rattle.plan.specs.Plan.{plan_of}

-- on an image to which neither 7 nor 8 applies
pub record OnAnother (input room image : List ℕ) : Type 0 where
  -- what is accepted on some other image is accepted on this one
  pub accepted : (other : List ℕ) → (plan_of input other room).refusal ≡ 0 → (plan_of input image room).refusal ≡ 0
  -- and what is refused is refused by the request's own rows, 1 to 6, 17, 20 and 9, or by the buffer's
  pub refused : Bytes input → Given (ncts_rules (walked input) ++ buffer_short when (length room < 256) ∷ []) (plan_of input image room).refusal

abbrev pub AnyOther : Type 0
AnyOther = (input room image : List ℕ) → length image ≡ 256 → ready image ≡ true → OnAnother input room image
