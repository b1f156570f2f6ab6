-- Document 01, "Refusal numbers", and those of document 02 that have landed (03, 06, 07, 10): the rows of the list, their numbers, their order, and
-- what it is to give one.
use Rattle.std.specs.Prelude.{◌≡◌, ◌↔◌, ◌≢◌, Bool, true, false, cond, List, [], ◌∷◌, ℕ, ◌<◌, eqb, length, get_or}

-- a row, named after its "When"
pub data Row : Type 0 where
  input_ends count_not_allowed bytes_after mode_not_offered field_out_of_range combination : Row
  image_length holds_up no_exact_pair buffer_short no_request input_above two_holds list_length bad_pair bad_end clock_above not_finite no_mode_fits sound_too_much : Row

abbrev pub number : Row → ℕ
number input_ends = 1
number count_not_allowed = 2
number bytes_after = 3
number mode_not_offered = 4
number field_out_of_range = 5
number combination = 6
number image_length = 7
number holds_up = 8
number no_exact_pair = 9
number buffer_short = 10
number no_request = 11
number input_above = 12
number two_holds = 13
number list_length = 14
number bad_pair = 15
number bad_end = 16
number clock_above = 17
number not_finite = 18
number no_mode_fits = 19
number sound_too_much = 20

-- "Checked in this order"; 14, 15 and 16 "in that order, after 7 and 8"; 17 "after 6 and before 7", and 20 after it; 18 and 19 in the order in which request
-- 07 names them
abbrev pub order : List Row
order =
    input_ends ∷ count_not_allowed ∷ bytes_after ∷ mode_not_offered ∷ field_out_of_range ∷ combination ∷ clock_above ∷ sound_too_much ∷ image_length ∷
    holds_up ∷ no_exact_pair ∷ buffer_short ∷ no_request ∷ input_above ∷ two_holds ∷ list_length ∷ bad_pair ∷ bad_end ∷ not_finite ∷ no_mode_fits ∷ []

-- a row that a call checks, and when it applies to the call's input
pub record Condition : Type 1 where
  pub row : Row
  pub When : Type 0

infix 80 ◌when◌
abbrev pub ◌when◌ : Row → Type 0 → Condition
row when P = record { row = row; When = P }

-- a call's conditions are some of the rows, in this order
abbrev pub in_order : List Condition → List Row → Bool
in_order [] rows = true
in_order (c ∷ cs) [] = false
in_order (c ∷ cs) (r ∷ rs) = cond (eqb (number c.row) (number r)) (in_order cs rs) (in_order (c ∷ cs) rs)

-- the condition at a place of a call's list; past its end there is none that applies
abbrev pub at : List Condition → ℕ → Condition
at rules i = get_or rules i (input_ends when ⊥)

-- the first of a call's conditions that applies, and its number
pub record First (rules : List Condition) (given : ℕ) : Type 0 where
  pub place : ℕ
  pub within : place < length rules
  pub numbered : given ≡ number (at rules place).row
  pub applies : (at rules place).When
  pub earlier : (i : ℕ) → i < place → (at rules i).When → ⊥

-- "the lowest that applies is given, and none is given otherwise": what a call gives, 0 for none
pub record Given (rules : List Condition) (given : ℕ) : Type 0 where
  pub ordered : in_order rules order ≡ true
  -- the one given applies, and none earlier in the order does
  pub some : given ≢ 0 → First rules given
  -- none is given exactly when none applies
  pub none : (given ≡ 0) ↔ ((i : ℕ) → i < length rules → (at rules i).When → ⊥)
