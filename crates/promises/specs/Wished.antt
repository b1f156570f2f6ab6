-- Document 02, request 12: what the wish that is chosen is to planning.
use Rattle.std.specs.Prelude.{◌≡◌, true, List, [], ◌∷◌, ℕ}
use Rattle.lists.specs.Among.{among}
use Rattle.edid.specs.Numbered.{Choice}
use Rattle.edid.specs.Wish.{wish_at}
use Rattle.edid.specs.Found.{choose_of}
use Rattle.edid.specs.Theorems.{put_at}
use Rattle.plan.specs.Plan.{plan_of}

-- the request as a host makes it: the VIC and the family of the wish, at the places that are answered
abbrev pub as_wished : List ℕ → List ℕ → List ℕ → List ℕ
as_wished edid input wishes = let c : Choice = choose_of edid input wishes in put_at c.at (wish_at wishes c.place) input

-- no row but 7, 8 and 10 can refuse it, those of the image and of the buffer
pub record WishPlanned (edid input wishes : List ℕ) : Type 0 where
  pub planned : (choose_of edid input wishes).refusal ≡ 0
      → (image buffer : List ℕ) → among (plan_of (as_wished edid input wishes) image buffer).refusal (0 ∷ 7 ∷ 8 ∷ 10 ∷ []) ≡ true
