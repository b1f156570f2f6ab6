-- What a walk finds, in the words of what stands in the input: over any sections, and of those of a request (`request::in_sections`). No
-- reader needs it who believes `walk` (Sections).
use Rattle.std.specs.Prelude.{◌≡◌, ◌↔◌, ◌⊎◌, Bool, true, false, ◌&&◌, List, [], ◌∷◌, ℕ, ◌≤◌, ◌<◌, get_or, length, take}
use Rattle.lists.specs.Among.{among}
use Rattle.wiring.specs.Theorems.{WiringCounted}
use Rattle.video.specs.Video.{video_count}
use Rattle.sound.specs.Sound.{audio_count}
use Rattle.request.specs.Sections.{matrix_count, Bodies, in_turn, by_name, ends, not_allowed, whole, walk, walked}
use Rattle.request.specs.Bytes.{laid}

-- a body for each section, and each of a count that its section allows
abbrev pub fits : List (List ℕ) → List (List ℕ) → Bool
fits [] [] = true
fits [] (body ∷ bodies) = false
fits (counts ∷ more) [] = false
fits (counts ∷ more) (body ∷ bodies) = among (length body) counts && fits more bodies

-- the first sections stand whole in the input, and others are to come: the bytes left, and the counts that the next section allows
pub record Begun (table : List (List ℕ)) (input : List ℕ) : Type 0 where
  pub bodies : List (List ℕ)
  pub left : List ℕ
  pub some : length bodies < length table
  pub fitting : fits (take (length bodies) table) bodies ≡ true
  pub made : input ≡ laid bodies left

abbrev pub next : {table : List (List ℕ)} {input : List ℕ} → Begun table input → List ℕ
next {table} b = get_or table (length b.bodies) []

-- row 1, "input ends before a count or inside a section"
pub record InputEnds (table : List (List ℕ)) (input : List ℕ) : Type 0 where
  pub begun : Begun table input
  pub there : (length begun.left ≡ 0)
      ⊎ ((among (get_or begun.left 0 0) (next begun) ≡ true) × (length begun.left ≤ get_or begun.left 0 0))

-- row 2, "a count the section does not allow"
pub record NotAllowed (table : List (List ℕ)) (input : List ℕ) : Type 0 where
  pub begun : Begun table input
  pub present : 0 < length begun.left
  pub refused : among (get_or begun.left 0 0) (next begun) ≡ false

-- what a walk finds, over any sections, and what stands in the input
pub record Walks (table : List (List ℕ)) (input : List ℕ) : Type 0 where
  pub whole : (bodies : List (List ℕ)) (rest : List ℕ)
      → (walk table input ≡ whole bodies rest) ↔ ((fits table bodies ≡ true) × (input ≡ laid bodies rest))
  pub ends : (walk table input ≡ ends) ↔ InputEnds table input
  pub not_allowed : (walk table input ≡ not_allowed) ↔ NotAllowed table input

-- the same of a request, section by section; a walk finds a body for each
pub record Sectioned (input : List ℕ) (b : Bodies) (rest : List ℕ) : Type 0 where
  pub wiring_counted : WiringCounted b.wiring
  pub video_counted : length b.video ≡ video_count
  pub audio_counted : (length b.audio ≡ 0) ⊎ (length b.audio ≡ audio_count)
  pub matrix_counted : (length b.matrix ≡ 0) ⊎ (length b.matrix ≡ matrix_count)
  pub made : input ≡ laid (in_turn b) rest

pub record RequestWalks (input : List ℕ) : Type 0 where
  pub each : (bodies : List (List ℕ)) (rest : List ℕ) → walked input ≡ whole bodies rest → in_turn (by_name bodies) ≡ bodies
  pub whole : (b : Bodies) (rest : List ℕ) → (walked input ≡ whole (in_turn b) rest) ↔ Sectioned input b rest
