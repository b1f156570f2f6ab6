-- The numbers of the refusals that the code hands out, and what its answers say in numbers. `refusals::numbers` holds them to the rows, and
-- `refusals::told_apart` says that no two are the same and none is 0.
use Rattle.std.specs.Prelude.{◌≡◌, ◌≢◌, Ok, Err, Result, ℕ}
use Rattle.refusals.specs.declared.Refusal.{Refusal}
use Rattle.refusals.specs.declared.Refusal.TheVariants.{InputEnds, CountNotAllowed, BytesAfter, ModeNotOffered, FieldOutOfRange, Combination, ImageLength, HoldsUp, NoExactPair, BufferShort, NoRequest, InputAbove, TwoHolds, ListLength, BadPair, BadEnd, ClockAbove, NotFinite, NoModeFits, SoundTooMuch, EdidLength, EdidSum, EdidBlock, NoWishFits}
use Rattle.refusals.specs.Rows.{number, input_ends, count_not_allowed, bytes_after, mode_not_offered, field_out_of_range, combination, image_length, holds_up, no_exact_pair, buffer_short, no_request, input_above, two_holds, list_length, bad_pair, bad_end, clock_above, not_finite, no_mode_fits, sound_too_much}

-- a refusal has the number of its row; those of request 12 stand in no landed row yet
abbrev pub refusal_number : Refusal → ℕ
refusal_number InputEnds = number input_ends
refusal_number CountNotAllowed = number count_not_allowed
refusal_number BytesAfter = number bytes_after
refusal_number ModeNotOffered = number mode_not_offered
refusal_number FieldOutOfRange = number field_out_of_range
refusal_number Combination = number combination
refusal_number ImageLength = number image_length
refusal_number HoldsUp = number holds_up
refusal_number NoExactPair = number no_exact_pair
refusal_number BufferShort = number buffer_short
refusal_number NoRequest = number no_request
refusal_number InputAbove = number input_above
refusal_number TwoHolds = number two_holds
refusal_number ListLength = number list_length
refusal_number BadPair = number bad_pair
refusal_number BadEnd = number bad_end
refusal_number ClockAbove = number clock_above
refusal_number NotFinite = number not_finite
refusal_number NoModeFits = number no_mode_fits
refusal_number SoundTooMuch = number sound_too_much
refusal_number EdidLength = 21
refusal_number EdidSum = 22
refusal_number EdidBlock = 23
refusal_number NoWishFits = 24

-- what an answer says in numbers: of a value what stands for it, of a refusal what stands beside its number
abbrev pub told : {T X : Type 0} → (T → X) → (ℕ → X) → Result T Refusal → X
told value refused (Ok x) = value x
told value refused (Err e) = refused (refusal_number e)

-- the number that an answer gives: 0 for none
abbrev pub given_by : {T : Type 0} → Result T Refusal → ℕ
given_by = told (λ x. 0) (λ n. n)

-- a number says which refusal it is, and 0 is none
pub record ToldApart : Type 0 where
  pub apart : (e f : Refusal) → refusal_number e ≡ refusal_number f → e ≡ f
  pub some : (e : Refusal) → refusal_number e ≢ 0
