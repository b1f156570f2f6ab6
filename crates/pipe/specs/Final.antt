-- Document 02, request 08: "A refusal that no later byte can change".
use Rattle.std.specs.Prelude.{◌≡◌, ◌≢◌, true, false, List, [], ◌∷◌, ◌++◌, ℕ, ◌<◌, ◌≤◌, length, get_or, take}
use Rattle.lists.specs.Among.{among}
use Rattle.matrix.specs.Matrix.{Bytes}
use Rattle.request.specs.Sections.{sections}
use Rattle.request.specs.Bytes.{laid}
use Rattle.request.specs.Walks.{fits}
use Rattle.request.specs.Read.{ncts_of}

-- "the answer .. for the joined bytes": the number that N and CTS gives them, rows 1 to 6, 17, 20 and 9, or 0 (`Rows`, request)
abbrev pub refusal_of : List ℕ → ℕ
refusal_of input = (ncts_of input).refusal

pub record Final (input : List ℕ) (given : ℕ) : Type 0 where
  pub some : given ≢ 0
  pub unchanged : (later : List ℕ) → Bytes later → refusal_of (input ++ later) ≡ given

-- an answer that later bytes change
pub record Changeable (input : List ℕ) : Type 0 where
  pub later : List ℕ
  pub bytes : Bytes later
  pub changed : refusal_of (input ++ later) ≢ refusal_of input

-- which are final: 2 and 3, and every other answer can be changed, acceptance too
pub record Finals (input : List ℕ) : Type 0 where
  pub two : refusal_of input ≡ 2 → Final input 2
  pub three : refusal_of input ≡ 3 → Final input 3
  pub others : refusal_of input ≢ 2 → refusal_of input ≢ 3 → Changeable input

-- where the deciding byte stands, by the sections
pub record Deciding (bodies : List (List ℕ)) : Type 0 where
  -- "refusal 2 as soon as its count is read": sections that are whole, and then a count that the next does not allow
  pub count : (n : ℕ) → length bodies < length sections → fits (take (length bodies) sections) bodies ≡ true
      → among n (get_or sections (length bodies) []) ≡ false → Final (laid bodies (n ∷ [])) 2
  -- "refusal 3 at the first byte too many": all sections, and then any byte
  pub byte : (n : ℕ) → fits sections bodies ≡ true → Final (laid bodies (n ∷ [])) 3
  -- and before that byte nothing is final
  pub before : length bodies ≤ length sections → fits (take (length bodies) sections) bodies ≡ true → (n : ℕ) → Final (laid bodies []) n → ⊥
