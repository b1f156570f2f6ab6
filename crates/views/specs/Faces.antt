-- What the calls over slices answer of a state is what the machine has in use: document 01, "The chip machine".
use Rattle.std.specs.Prelude.{◌≡◌, ◌↔◌, List, ◌∷◌, ◌++◌, ℕ, ◌≤◌, length, drop}
use Rattle.matrix.specs.Coefficient.{coefficient_bytes}
use Rattle.matrix.specs.Matrix.{fields}
use Rattle.chip.specs.declared.Chip.{Chip}
use Rattle.chip.specs.Machine.{avi, audio, packets, in_use, coefficients, mode_in_use, Muted, Open, mute}
use Rattle.views.specs.Entry.{marked}
use Rattle.views.specs.View.{sent_of, mute_of}
use Rattle.views.specs.Converter.{matrix_answer, matrix_out}

-- the views of a state in which no two packet holds are up are what the machine has in use
pub record Faces (s : Chip) : Type 0 where
  pub avi : sent_of s.image s.packet 0 ≡ in_use packets avi s
  pub audio : sent_of s.image s.packet 1 ≡ in_use packets audio s
  pub mute : mute_of s.image s.packet ≡ record { refusal = 0; mute = mute s }
  -- "Muted: set bit 1, clear bit 0. Open: set 0, clear 1.", as the numbers 1 and 2
  pub muted : ((mute_of s.image s.packet).mute ≡ 1) ↔ Muted s
  pub opened : ((mute_of s.image s.packet).mute ≡ 2) ↔ Open s
  -- mode and coefficients, in any buffer that is long enough, by any byte that says the state's mark; read back, the bytes say the twelve in
  -- use
  pub count : (out : List ℕ) → 25 ≤ length out → matrix_answer s.image s.coefficients out ≡ record { refusal = 0; count = 25 }
  pub matrix : (mark : ℕ) → marked mark ≡ s.waiting → (out : List ℕ) → 25 ≤ length out
      → matrix_out s.image s.coefficients mark out ≡ (mode_in_use s ∷ coefficient_bytes (coefficients s)) ++ drop 25 out
  pub twelve : fields (coefficient_bytes (coefficients s)) ≡ coefficients s
