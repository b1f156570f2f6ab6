-- Document 01, "Matrix": the preview. `preview_of` follows the code: `PreviewRefusals` ties its refusals to document 01's rows, and
-- `RoundedDown` and `Clamped` its codes, which are the formula (`rounded`, `held_within`).
use Rattle.std.specs.Prelude.{◌≡◌, Bool, ◌||◌, not, ◌⊎◌, ◌≢◌, List, [], ◌∷◌, ℕ, ◌+◌, ◌*◌, ◌^◌, ◌<◌, ◌≤◌, min, ltb, get_or, ℤ, pos, negsuc, ◌+ℤ◌, ◌*ℤ◌, ◌≤ℤ◌, ◌<ℤ◌}
use Rattle.std.specs.Int.Signed.{shr_z}
use Rattle.refusals.specs.Rows.{field_out_of_range, input_above, Condition, ◌when◌, Given}
use Rattle.refusals.specs.Tests.{Test, ◌if◌, lowest, answer}
use Rattle.matrix.specs.declared.Matrix.{Matrix}
use Rattle.matrix.specs.Numbered.{Pixel}
use Rattle.matrix.specs.Coefficient.{value_of}
use Rattle.matrix.specs.Matrix.{matrix_of, Allowed}
use Rattle.matrix.specs.Tests.{is_allowed}

-- "Output A = (InA·A1/4096 + InB·A2/4096 + InC·A3/4096 + A4)·2^mode", with the one division at the end, where it "rounds down to a whole
-- code"
abbrev pub rounded : ℕ → ℕ → ℕ → ℤ → ℤ → ℤ → ℤ → ℕ → ℤ
rounded a b c k1 k2 k3 k4 mode = shr_z ((pos a *ℤ k1 +ℤ pos b *ℤ k2 +ℤ pos c *ℤ k3 +ℤ k4 *ℤ pos 4096) *ℤ pos (2 ^ mode)) 4096

-- "then holds it within 0 to 4095"
abbrev pub held_within : ℤ → ℕ
held_within (pos n) = min n 4095
held_within (negsuc n) = 0

-- three codes through four fields
unfoldable pub code_of : ℕ → ℕ → ℕ → ℕ → ℕ → ℕ → ℕ → ℕ → ℕ
code_of a b c k1 k2 k3 k4 mode = held_within (rounded a b c (value_of k1) (value_of k2) (value_of k3) (value_of k4) mode)

-- row 0, 1 or 2 of a matrix on three codes
abbrev pub output_of : Matrix → ℕ → ℕ → ℕ → ℕ → ℕ
output_of m row a b c =
    let k : ℕ → ℕ = λ i. get_or m.coefficients (4 * row + i) 0 in
    code_of a b c (k 0) (k 1) (k 2) (k 3) m.mode

-- an input above 4095
abbrev pub above : ℕ → ℕ → ℕ → Bool
above a b c = ltb 4095 a || ltb 4095 b || ltb 4095 c

-- the tests of the two rows: a mode or coefficient out of range, or a matrix not of 25 bytes; an input above 4095
abbrev pub preview_tests : List ℕ → ℕ → ℕ → ℕ → List Test
preview_tests body a b c = field_out_of_range if not (is_allowed body) ∷ input_above if above a b c ∷ []

-- a refusal has its number, and zeros beside it
abbrev pub no_pixel : ℕ → Pixel
no_pixel number = record { refusal = number; a = 0; b = 0; c = 0 }

-- what the preview answers
unfoldable pub preview_of : List ℕ → ℕ → ℕ → ℕ → Pixel
preview_of body a b c =
    answer (lowest (preview_tests body a b c)) no_pixel
    (let code : ℕ → ℕ = λ row. output_of (matrix_of body) row a b c in record { refusal = 0; a = code 0; b = code 1; c = code 2 })

-- what the preview promises
abbrev pub Previews : List ℕ → ℕ → ℕ → ℕ → Pixel → Type 0
Previews body a b c pixel = pixel ≡ preview_of body a b c

-- "the preview 5 and 12": when each applies, on the raw input
abbrev pub preview_rules : List ℕ → ℕ → ℕ → ℕ → List Condition
preview_rules body a b c = field_out_of_range when (Allowed body → ⊥) ∷ input_above when ((4095 < a) ⊎ (4095 < b) ⊎ (4095 < c)) ∷ []

pub record PreviewRefusals (body : List ℕ) (a b c : ℕ) : Type 0 where
  pub given : Given (preview_rules body a b c) (preview_of body a b c).refusal
  -- zeros beside a refusal
  pub zeros : (preview_of body a b c).refusal ≢ 0 → let p : Pixel = preview_of body a b c in (p.a ≡ 0) × (p.b ≡ 0) × (p.c ≡ 0)

-- q is z / 4096 rounded down: what `shr_z z 4096` is
pub record RoundedDown (z q : ℤ) : Type 0 where
  pub below : (q *ℤ pos 4096) ≤ℤ z
  pub above : z <ℤ ((q +ℤ pos 1) *ℤ pos 4096)

-- n is z, or the nearer end of 0 to 4095 where z lies outside: what `held z` is
pub record Clamped (z : ℤ) (n : ℕ) : Type 0 where
  pub high : n ≤ 4095
  pub inside : pos 0 ≤ℤ z → z ≤ℤ pos 4095 → pos n ≡ z
  pub under : z ≤ℤ pos 0 → n ≡ 0
  pub over : pos 4095 ≤ℤ z → n ≡ 4095
