-- Document 01, "The request": sections "in this order, each after a one-byte count", and document 02, request 02, one more before them; and
-- "Refusal numbers": how they are walked. `Walks` (Walks) says of each thing that a walk finds what then stands in the input.
use Rattle.std.specs.Prelude.{cond, List, [], ◌∷◌, ℕ, suc, ◌+◌, max, leb, get_or, length, take, drop}
use Rattle.lists.specs.Among.{among}
use Rattle.wiring.specs.Kinds.{four_count, twelve_count}
use Rattle.video.specs.Video.{video_count}
use Rattle.sound.specs.Sound.{audio_count}

-- "Video, count .." (`video_count`); "Audio, count 0 or 3" (`audio_count`); "Matrix, count 0 or 25"
abbrev pub matrix_count : ℕ
matrix_count = 25

-- the table: the counts that each section allows, "in this order"; the sections' bodies by name; and these in that order. "A wiring section
-- goes before the video section"
abbrev pub sections : List (List ℕ)
sections = (0 ∷ four_count ∷ twelve_count ∷ []) ∷ (video_count ∷ []) ∷ (0 ∷ audio_count ∷ []) ∷ (0 ∷ matrix_count ∷ []) ∷ []

pub record Bodies : Type 0 where
  pub wiring : List ℕ
  pub video : List ℕ
  pub audio : List ℕ
  pub matrix : List ℕ

abbrev pub in_turn : Bodies → List (List ℕ)
in_turn b = b.wiring ∷ b.video ∷ b.audio ∷ b.matrix ∷ []

abbrev pub by_name : List (List ℕ) → Bodies
by_name bodies = record { wiring = get_or bodies 0 []; video = get_or bodies 1 []; audio = get_or bodies 2 []; matrix = get_or bodies 3 [] }

-- what a walk finds: the input ends before a count or inside a section; a count that the section does not allow; or the bodies of the
-- sections, and the bytes after the last
pub data Walk : Type 0 where
  ends not_allowed : Walk
  whole : List (List ℕ) → List ℕ → Walk

-- a body, and then what the rest of the walk finds
abbrev pub after : List ℕ → Walk → Walk
after body ends = ends
after body not_allowed = not_allowed
after body (whole bodies rest) = whole (body ∷ bodies) rest

-- "the sections are walked in order: count present, count allowed, body present"
unfoldable pub walk : List (List ℕ) → List ℕ → Walk
walk [] input = whole [] input
-- row 1, "input ends before a count .."
walk (counts ∷ more) [] = ends
-- row 1, ".. or inside a section"; row 2, "a count the section does not allow"
walk (counts ∷ more) (n ∷ input) =
    cond (among n counts) (cond (leb n (length input)) (after (take n input) (walk more (drop n input))) ends) not_allowed

unfoldable pub walked : List ℕ → Walk
walked = walk sections

-- the bodies that it finds, and the bytes after the last
abbrev pub bodies_in : Walk → Bodies
bodies_in ends = by_name []
bodies_in not_allowed = by_name []
bodies_in (whole bodies rest) = by_name bodies

abbrev pub rest_of : Walk → List ℕ
rest_of ends = []
rest_of not_allowed = []
rest_of (whole bodies rest) = rest

-- the longest input that sections take: of each its count, and a body of its largest count
abbrev pub largest : List ℕ → ℕ
largest [] = 0
largest (n ∷ counts) = max n (largest counts)

abbrev pub longest_of : List (List ℕ) → ℕ
longest_of [] = 0
longest_of (counts ∷ more) = suc (largest counts) + longest_of more

-- "the longest request"
abbrev pub longest : ℕ
longest = longest_of sections
