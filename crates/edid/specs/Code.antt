-- What the inner functions answer, in the words of `Screen` and `Found`: a walk over data blocks, and the first wish that fits.
use Rattle.std.specs.Prelude.{◌≡◌, Result, Ok, Err, Option, Some, None, Bool, false, cond, List, ℕ, ◌<◌, eqb, get_or, length}
use denote.Ref.{Bor}
use Rattle.lists.specs.Find.{some}
use Rattle.refusals.specs.declared.Refusal.{Refusal}
use Rattle.refusals.specs.declared.Refusal.TheVariants.{EdidBlock}
use Rattle.edid.specs.declared.Ask.{Ask}
use Rattle.edid.specs.Screen.{Block, Blocks, past_end, blocks}
use Rattle.edid.specs.Wish.{Wish}
use Rattle.edid.specs.Found.{first_at}

-- what a caller's closure gives at a tag and bytes is what a test of blocks gives
abbrev pub Tests : (ℕ → Bor (List ℕ) → Bool → Type 0) → (Block → Bool) → Type 0
Tests Gives test = (tag : ℕ) (body : Bor (List ℕ)) (r : Bool) → Gives tag body r → r ≡ test (record { tag = tag; body = body.now })

-- what is answered of blocks: whether one passes, and row 23 where one runs past the end and none passes
abbrev pub Answers : (Block → Bool) → Blocks → Result Bool Refusal → Type 0
Answers test past_end r = ((b : Block) → test b ≡ false) → r ≡ Err EdidBlock
Answers test (blocks bs) r = r ≡ Ok (some test bs)

-- a caller's closure gives these questions, by their numbers
abbrev pub AsksBy : (ℕ → Ask → Type 0) → (ℕ → Ask) → Type 0
AsksBy Gives asks = (n : ℕ) (r : Ask) → n < 256 → Gives n r → r ≡ asks n

-- a wish as it stands in two bytes
abbrev pub wish_of : List ℕ → Wish
wish_of bytes = record { vic = get_or bytes 0 0; family = get_or bytes 1 0 }

-- the place of the first that passes a test, if one does
abbrev pub first_in : {A : Type 0} → (A → Bool) → List A → Option ℕ
first_in test xs = cond (eqb (first_at test xs) (length xs)) None (Some (first_at test xs))
