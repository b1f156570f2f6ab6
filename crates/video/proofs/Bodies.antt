-- A body and what it asks for say the same. Assumes nothing.
use mathlib.Core.Path.{◌≡◌, refl}
use mathlib.Core.List.{List}
use Prim.Native.Nat.{ℕ}
use lib.ListN.{length}
use Rattle.lists.proofs.Place.{by_place_lem}
use Rattle.video.specs.Video.{video_count, video_in, video_body}
use Rattle.video.specs.Body.{Body}

whole : (body : List ℕ) → length body ≡ video_count → video_body (video_in body) ≡ body
whole = by_place_lem video_count

pub bodies : Body
bodies = record { counted = λ v. refl; back = λ v. refl; whole = whole }
