-- Document 02, request 12: rows 21 to 24, "in that order, before any planning refusal", and what it is to give one of them: as `Given` says it of the
-- landed rows, and in the same words.
use Rattle.std.specs.Prelude.{◌≡◌, ◌↔◌, ◌≢◌, Bool, true, false, cond, List, [], ◌∷◌, map, ℕ, ◌<◌, eqb, length, get_or}
use Rattle.refusals.specs.Rows.{number, order}

-- a row, named after its "When"
pub data ScreenRow : Type 0 where
  edid_length edid_sum edid_block no_wish_fits : ScreenRow

abbrev pub screen_number : ScreenRow → ℕ
screen_number edid_length = 21
screen_number edid_sum = 22
screen_number edid_block = 23
screen_number no_wish_fits = 24

-- the numbers in their order, these before those of every landed row
abbrev pub screen_order : List ℕ
screen_order = 21 ∷ 22 ∷ 23 ∷ 24 ∷ map number order

-- a row that a call checks, and when it applies to the call's input
pub record ScreenCondition : Type 1 where
  pub row : ScreenRow
  pub When : Type 0

infix 80 ◌whenever◌
abbrev pub ◌whenever◌ : ScreenRow → Type 0 → ScreenCondition
row whenever P = record { row = row; When = P }

-- the numbers of a call's conditions are some of those, in this order
abbrev pub screen_numbers : List ScreenCondition → List ℕ
screen_numbers [] = []
screen_numbers (c ∷ cs) = screen_number c.row ∷ screen_numbers cs

abbrev pub some_in_order : List ℕ → List ℕ → Bool
some_in_order [] ns = true
some_in_order (m ∷ ms) [] = false
some_in_order (m ∷ ms) (n ∷ ns) = cond (eqb m n) (some_in_order ms ns) (some_in_order (m ∷ ms) ns)

-- the condition at a place of a call's list; past its end there is none that applies
abbrev pub screen_at : List ScreenCondition → ℕ → ScreenCondition
screen_at rules i = get_or rules i (edid_length whenever ⊥)

-- the first of a call's conditions that applies, and its number
pub record FirstScreen (rules : List ScreenCondition) (given : ℕ) : Type 0 where
  pub place : ℕ
  pub within : place < length rules
  pub numbered : given ≡ screen_number (screen_at rules place).row
  pub applies : (screen_at rules place).When
  pub earlier : (i : ℕ) → i < place → (screen_at rules i).When → ⊥

-- what a call gives, 0 for none
pub record GivenFirst (rules : List ScreenCondition) (given : ℕ) : Type 0 where
  pub ordered : some_in_order (screen_numbers rules) screen_order ≡ true
  -- the one given applies, and none earlier in the order does
  pub some : given ≢ 0 → FirstScreen rules given
  -- none is given exactly when none applies
  pub none : (given ≡ 0) ↔ ((i : ℕ) → i < length rules → (screen_at rules i).When → ⊥)
