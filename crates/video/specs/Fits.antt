-- What is known of the video of an accepted request (`request::accepted_fits`): neither row 4 nor what rows 5 and 6 say of the video section
-- applies.
use Rattle.std.specs.Prelude.{◌≡◌, true}
use Rattle.video.specs.declared.Video.{Video}
use Rattle.video.specs.Modes.{offered}
use Rattle.video.specs.Video.{VideoOutside, VideoCombined}

pub record VideoFits (v : Video) : Type 0 where
  pub offered : offered v ≡ true
  pub inside : VideoOutside v → ⊥
  pub apart : VideoCombined v → ⊥
