-- The bytes of the video section and what they ask for: there and back.
use Rattle.std.specs.Prelude.{◌≡◌, List, ℕ, length}
use Rattle.video.specs.declared.Video.{Video}
use Rattle.video.specs.Video.{video_count, video_in, video_body}

-- a body of that count and what it asks for say the same
pub record Body : Type 0 where
  pub counted : (v : Video) → length (video_body v) ≡ video_count
  pub back : (v : Video) → video_in (video_body v) ≡ v
  pub whole : (body : List ℕ) → length body ≡ video_count → video_body (video_in body) ≡ body
