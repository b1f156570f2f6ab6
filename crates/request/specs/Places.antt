-- How the code walks: where the body of each section ends in the input. The contract of `sections::walk` and of private functions alone: no
-- promise rests on it.
use Rattle.std.specs.Prelude.{◌≡◌, List, [], ◌∷◌, ℕ, suc, ◌+◌, length, replicate}
use Rattle.refusals.specs.Rows.{Row, input_ends, count_not_allowed, number}
use Rattle.request.specs.Numbered.{BodyEnds}
use Rattle.request.specs.Sections.{sections, Walk, ends, not_allowed, whole, walked}

-- the ends of bodies, each after its count, from a place on
abbrev pub ends_from : ℕ → List (List ℕ) → List ℕ
ends_from place [] = []
ends_from place (body ∷ bodies) = (place + suc (length body)) ∷ ends_from (place + suc (length body)) bodies

abbrev pub no_places : Row → BodyEnds
no_places row = record { refusal = number row; ends = replicate (length sections) 0 }

-- a walk, as places in the input
abbrev pub places_of : Walk → BodyEnds
places_of ends = no_places input_ends
places_of not_allowed = no_places count_not_allowed
places_of (whole bodies rest) = record { refusal = 0; ends = ends_from 0 bodies }

-- where a walk found all sections, their bodies end there
abbrev pub EndsAt : List ℕ → List ℕ → Type 0
EndsAt input found = record { refusal = 0; ends = found } ≡ places_of (walked input)
