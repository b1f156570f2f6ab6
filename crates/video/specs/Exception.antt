-- Demand 2, "the same request, but for the frame-rate family", and document 02, request 11, "that one exception is added to demand 2": what
-- `answered` leaves out of a video is the family, and the edition where neither of E's bits is asked for.
use Rattle.std.specs.Prelude.{◌≡◌, ◌↔◌, ◌⊎◌}
use Rattle.video.specs.declared.Video.{Video}
use Rattle.video.specs.Video.{edition_number, AsksE, answered}
use Rattle.video.specs.Fits.{VideoFits}

-- the same video, but for these two
pub record SameBut (v w : Video) : Type 0 where
  pub vic : v.vic ≡ w.vic
  pub encoding : v.encoding ≡ w.encoding
  pub link : v.link ≡ w.link
  pub range : v.range ≡ w.range
  pub pixel : v.pixel ≡ w.pixel
  pub edition : (v.edition ≡ w.edition) ⊎ ((AsksE v → ⊥) × (AsksE w → ⊥))

pub record Exception : Type 0 where
  -- they are the only ones: two videos are answered alike exactly when they are the same but for these
  pub only : (v w : Video) → VideoFits v → VideoFits w → (answered v ≡ answered w) ↔ SameBut v w
  -- "Decoding answers D when the bits are 0"; where one of them is asked for the edition is E, and the byte is answered as it is
  pub as_d : (v : Video) → VideoFits v → (AsksE v → ⊥) → (answered v).edition ≡ 0
  pub as_e : (v : Video) → VideoFits v → AsksE v → (edition_number v ≡ 1) × ((answered v).edition ≡ v.edition)
