-- "Take an accepted request": there is one. Document 01's worked example is accepted, also where a cut left a hold up.
use Rattle.std.specs.Prelude.{◌≡◌, true, List, ℕ, set}
use Rattle.chip.specs.Machine.{avi, audio, matrix, packets, converter, up, holds_of}
use Rattle.plan.specs.Plan.{plan_of}
use Rattle.promises.specs.Worked.{example, zeros}

abbrev pub avi_held : List ℕ
avi_held = set zeros 0x4A 0x40

abbrev pub audio_held : List ℕ
audio_held = set zeros 0x4A 0x20

abbrev pub matrix_held : List ℕ
matrix_held = set zeros 0x1A 0x20

abbrev pub IsAccepted : List ℕ → Type 0
IsAccepted image = (plan_of example image zeros).refusal ≡ 0

pub record Example : Type 0 where
  pub on_zeros : IsAccepted zeros
  pub with_avi : (up avi (holds_of packets avi_held) ≡ true) × IsAccepted avi_held
  pub with_audio : (up audio (holds_of packets audio_held) ≡ true) × IsAccepted audio_held
  pub with_matrix : (up matrix (holds_of converter matrix_held) ≡ true) × IsAccepted matrix_held
