-- No two refusals have one number, and none has 0: each is had back from its number. Assumes nothing.
use mathlib.Core.Path.{◌≡◌, refl, sym, ◌∙◌, ap}
use mathlib.Core.List.{List, [], ◌∷◌}
use Prim.Native.Nat.{ℕ}
use lib.ListN.{get_or}
use Rattle.refusals.specs.declared.Refusal.{Refusal}
use Rattle.refusals.specs.declared.Refusal.TheVariants.{InputEnds, CountNotAllowed, BytesAfter, ModeNotOffered, FieldOutOfRange, Combination, ImageLength, HoldsUp, NoExactPair, BufferShort, NoRequest, InputAbove, TwoHolds, ListLength, BadPair, BadEnd, ClockAbove, NotFinite, NoModeFits, SoundTooMuch, EdidLength, EdidSum, EdidBlock, NoWishFits}
use Rattle.refusals.specs.Numbered.{refusal_number, ToldApart}
use Rattle.refusals.proofs.Told.{refusal_some}

-- the refusal of a number, by its place; 0 and what is past the list say any
in_turn : List Refusal
in_turn =
    InputEnds ∷ InputEnds ∷ CountNotAllowed ∷ BytesAfter ∷ ModeNotOffered ∷ FieldOutOfRange ∷ Combination ∷ ImageLength ∷ HoldsUp ∷ NoExactPair ∷ BufferShort ∷ NoRequest ∷ InputAbove ∷ TwoHolds ∷ ListLength ∷ BadPair ∷ BadEnd ∷ ClockAbove ∷ NotFinite ∷ NoModeFits ∷ SoundTooMuch ∷ EdidLength ∷ EdidSum ∷ EdidBlock ∷ NoWishFits ∷ []

back : ℕ → Refusal
back n = get_or in_turn n InputEnds

back_again : (e : Refusal) → back (refusal_number e) ≡ e
unfolding back in_turn
back_again InputEnds = refl
back_again CountNotAllowed = refl
back_again BytesAfter = refl
back_again ModeNotOffered = refl
back_again FieldOutOfRange = refl
back_again Combination = refl
back_again ImageLength = refl
back_again HoldsUp = refl
back_again NoExactPair = refl
back_again BufferShort = refl
back_again NoRequest = refl
back_again InputAbove = refl
back_again TwoHolds = refl
back_again ListLength = refl
back_again BadPair = refl
back_again BadEnd = refl
back_again ClockAbove = refl
back_again NotFinite = refl
back_again NoModeFits = refl
back_again SoundTooMuch = refl
back_again EdidLength = refl
back_again EdidSum = refl
back_again EdidBlock = refl
back_again NoWishFits = refl

pub told_apart : ToldApart
told_apart = record {
  apart = λ e f h. sym (back_again e) ∙ (ap back h ∙ back_again f);
  some = refusal_some;
}
