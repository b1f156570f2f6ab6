-- Where row 5 does not apply, it applies to no section. Assumes nothing.
use mathlib.Core.Path.{◌≡◌}
use mathlib.Core.Bool.{Bool, false, not, ◌&&◌}
use Rattle.lists.proofs.Both.{neither_left, neither_right}
use Rattle.wiring.specs.declared.Wiring.{Wiring}
use Rattle.wiring.specs.Wiring.{wiring_in}
use Rattle.wiring.specs.Tests.{wiring_outside}
use Rattle.video.specs.declared.Video.{Video}
use Rattle.video.specs.Video.{video_in}
use Rattle.video.specs.Tests.{video_outside}
use Rattle.sound.specs.declared.Sound.{Sound}
use Rattle.sound.specs.Sound.{sound_of}
use Rattle.sound.specs.Tests.{sound_outside}
use Rattle.matrix.specs.Tests.{is_allowed}
use Rattle.request.specs.Sections.{Bodies}
use Rattle.request.specs.Request.{present}
use Rattle.request.specs.Read.{outside_in, outside}

-- a line for each section; of the matrix by whether it is outside its range
pub record Inside (w : Wiring) (v : Video) (s : Sound) (spoiled : Bool) : Type 0 where
  pub wiring : wiring_outside w ≡ false
  pub video : video_outside v ≡ false
  pub sound : sound_outside s ≡ false
  pub matrix : spoiled ≡ false

pub each_inside : (w : Wiring) (v : Video) (s : Sound) (spoiled : Bool) → outside_in w v s spoiled ≡ false → Inside w v s spoiled
each_inside w v s spoiled e =
    let past-wiring = neither_right (wiring_outside w) _ e in
    let past-video = neither_right (video_outside v) _ past-wiring in
    record {
      wiring = neither_left (wiring_outside w) _ e;
      video = neither_left (video_outside v) _ past-wiring;
      sound = neither_left (sound_outside s) _ past-video;
      matrix = neither_right (sound_outside s) _ past-video;
    }

abbrev pub InsideOf : Bodies → Type 0
InsideOf b = Inside (wiring_in b.wiring) (video_in b.video) (sound_of b.audio) (present b.matrix && not (is_allowed b.matrix))

pub bodies_inside : (b : Bodies) → outside b ≡ false → InsideOf b
unfolding outside
bodies_inside b e = each_inside (wiring_in b.wiring) (video_in b.video) (sound_of b.audio) (present b.matrix && not (is_allowed b.matrix)) e
