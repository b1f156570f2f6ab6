-- What is known of an accepted request: document 01, "The request", the range of each field. `accepted_fits` says so of every input.
use Rattle.std.specs.Prelude.{◌≡◌, ◌≤◌}
use Rattle.wiring.specs.Wiring.{WiringOutside}
use Rattle.video.specs.Fits.{VideoFits}
use Rattle.sound.specs.Fits.{SoundFits}
use Rattle.clock.specs.Answers.{clock_of}
use Rattle.blanking.specs.Table.{TooMuch}
use Rattle.request.specs.declared.Request.{Request}
use Rattle.request.specs.ThereAndBack.{Shaped}

-- the wiring is defined; the clock is answered; the sound fits into the blanking; the matrix is none, or twelve fields of 13 bits; "(matrix mode above 2)" is row 5's
pub record Fits (r : Request) : Type 0 where
  pub wiring : WiringOutside r.wiring → ⊥
  pub video : VideoFits r.video
  pub clock : (clock_of r.video).refusal ≡ 0
  pub sound : SoundFits r.sound
  pub room : TooMuch r.video r.sound → ⊥
  pub matrix : Shaped r.matrix
  pub mode : r.matrix.mode ≤ 2
