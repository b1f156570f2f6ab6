-- Document 02, request 12: wishes, "each a VIC and family put in its place", and when one fits. What is answered, `choose_of`, follows the code (Found);
-- `Chooses` (Theorems) says that it is the first that fits.
use Rattle.std.specs.Prelude.{◌≡◌, ◌≢◌, ◌⊎◌, true, List, [], ◌∷◌, ℕ, ◌*◌, ◌%◌, ◌<◌, get_or, length, drop}
use Rattle.refusals.specs.Rows.{at}
use Rattle.sound.specs.declared.Sound.{Sound}
use Rattle.sound.specs.declared.Sound.TheVariants.{Off, On}
use Rattle.request.specs.Sections.{Bodies, in_turn, Walk, ends, not_allowed, whole, walked, by_name}
use Rattle.request.specs.Request.{request_of, ncts_rules}
use Rattle.request.specs.Bytes.{laid, with_video}
use Rattle.edid.specs.declared.Ask.TheVariants.{Vic, Pcm}
use Rattle.edid.specs.Order.{ScreenCondition, ◌whenever◌, edid_length, edid_sum, edid_block, no_wish_fits}
use Rattle.edid.specs.Screen.{WrongEdid, WrongSum, BadBlock, screen_tells}

pub record Wish : Type 0 where
  pub vic : ℕ
  pub family : ℕ

-- two bytes each
abbrev pub wishes_in : List ℕ → List Wish
wishes_in [] = []
wishes_in (vic ∷ []) = []
wishes_in (vic ∷ family ∷ more) = record { vic = vic; family = family } ∷ wishes_in more

-- row 21, "bad length (over 16 wishes too)"
abbrev pub most_wishes : ℕ
most_wishes = 16

abbrev pub WrongWishes : List ℕ → Type 0
WrongWishes wishes = (length wishes % 2 ≢ 0) ⊎ (2 * most_wishes < length wishes)

-- "put in its place": VIC and family are the first two bytes of the video section. An input in which a walk does not find the sections has no
-- such place, and is refused 1 or 2 whatever is wished
abbrev pub wished : Wish → List ℕ → List ℕ
wished w video = w.vic ∷ w.family ∷ drop 2 video

abbrev pub placed_in : Wish → List ℕ → Walk → List ℕ
placed_in w input ends = input
placed_in w input not_allowed = input
placed_in w input (whole bodies rest) = let b : Bodies = by_name bodies in laid (in_turn (with_video (wished w b.video) b)) rest

unfoldable pub in_place : Wish → List ℕ → List ℕ
in_place w input = placed_in w input (walked input)

-- "whose rate and channels an audio one covers when there is sound"
abbrev pub SoundCovered : List ℕ → Sound → Type 0
SoundCovered edid Off = Unit {0}
SoundCovered edid (On rate channels coherent) = screen_tells edid (Pcm rate channels) ≡ true

-- a wish that is answered, if it is the first
pub record WishFits (edid input : List ℕ) (w : Wish) : Type 0 where
  -- "whose VIC a short video descriptor lists"
  pub listed : screen_tells edid (Vic w.vic) ≡ true
  pub covered : SoundCovered edid (request_of (walked (in_place w input))).sound
  -- "which meets no refusal 1 to 6, 9, 17 or 20": no row that N and CTS checks applies to the request with the wish
  pub permitted : (i : ℕ) → i < length (ncts_rules (walked (in_place w input))) → (at (ncts_rules (walked (in_place w input))) i).When → ⊥

-- the wish at a place
abbrev pub wish_at : List ℕ → ℕ → Wish
wish_at wishes i = get_or (wishes_in wishes) i (record { vic = 0; family = 0 })

-- rows 21 to 24, "in that order", and row 24 "exactly if there is none"
abbrev pub NoneFits : List ℕ → List ℕ → List ℕ → Type 0
NoneFits edid input wishes = (i : ℕ) → i < length (wishes_in wishes) → WishFits edid input (wish_at wishes i) → ⊥

abbrev pub choose_rules : List ℕ → List ℕ → List ℕ → List ScreenCondition
choose_rules edid input wishes =
    edid_length whenever (WrongEdid edid ⊎ WrongWishes wishes) ∷
    edid_sum whenever WrongSum edid ∷
    edid_block whenever BadBlock edid ∷
    no_wish_fits whenever NoneFits edid input wishes ∷ []
