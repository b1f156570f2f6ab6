-- What the tests of a video decide, and what they say of each field of one that is accepted. Assumes nothing.
use mathlib.Core.Path.{◌≡◌, refl}
use mathlib.Core.Logic.{◌≢◌, inl, inr}
use mathlib.Core.Bool.{Bool, true, false, cond, ◌&&◌}
use mathlib.Core.List.{List, [], ◌∷◌}
use Prim.Native.Nat.{ℕ, ◌/◌, ◌<◌, ◌≤◌}
use native.Mathlib.Omega.{arith}
use lib.Dec.{eqb, ltb, leb}
use borrow.Author.Tests.{eqb-true, eqb-false, ltb-true, leb-true}
use Rattle.lists.specs.Find.{every}
use Rattle.lists.proofs.Both.{both_left, both_right}
use Rattle.lists.proofs.Decides.{Decides, equal, less, opposite, either, together, refuted, at_most}
use Rattle.video.specs.declared.Mode.{Mode}
use Rattle.video.specs.declared.Video.{Video}
use Rattle.video.specs.Modes.{modes, row_of, mode_of}
use Rattle.video.specs.Video.{depth, repetition, edition_number, ycc_quantisation, content_type, AsksE, EditionOutside, ShownOutside, VideoOutside, PixelOutside}
use Rattle.video.specs.Video.{FullYCbCr, DeepApart, AskedUnderD, ShownCombined, VideoCombined}
use Rattle.video.specs.Tests.{edition_outside, shown_outside, video_outside, pixel_outside}
use Rattle.video.specs.Tests.{full_ycbcr, deep_apart, asked_under_d, shown_combined, video_combined}
use Rattle.video.specs.Fits.{VideoFits}

pub is_edition_outside : (v : Video) → Decides (edition_outside v) (EditionOutside v)
is_edition_outside v = either (less 1 (edition_number v)) (either (less 1 (ycc_quantisation v)) (less 0 (v.edition / 64)))

pub is_shown_outside : (v : Video) → Decides (shown_outside v) (ShownOutside v)
unfolding shown_outside
is_shown_outside v = either (less 2 v.encoding) (either (less 1 v.range) (either (less 2 (repetition v)) (is_edition_outside v)))

pub is_outside : (v : Video) → Decides (video_outside v) (VideoOutside v)
unfolding video_outside
is_outside v = either (less 1 v.link) (either (less 2 (depth v)) (is_shown_outside v))

pub is_pixel_outside : (v : Video) → Decides (pixel_outside v) (PixelOutside v)
is_pixel_outside v = either (less 2 (depth v)) (less 2 (repetition v))

is_full : (v : Video) → Decides (full_ycbcr v) (FullYCbCr v)
is_full v = together (equal v.range 1) (opposite (equal v.encoding 0))

-- what is outside for the clock is outside
pub outside_too : (v : Video) → PixelOutside v → VideoOutside v
outside_too v (inl depth) = inr (inl depth)
outside_too v (inr repetition) = inr (inr (inr (inr (inl repetition))))

pub pixel_inside : (v : Video) → video_outside v ≡ false → pixel_outside v ≡ false
pixel_inside v e = refuted (is_pixel_outside v) (λ h. (is_outside v).fails e (outside_too v h))

pub is_deep : (v : Video) → Decides (deep_apart v) (DeepApart v)
is_deep v = together (opposite (equal (depth v) 0)) (either (equal v.encoding 1) (equal v.link 0))

pub is_under_d : (v : Video) → Decides (asked_under_d v) (AskedUnderD v)
is_under_d v = together (equal (edition_number v) 0) (either (opposite (equal (ycc_quantisation v) 0)) (opposite (equal (content_type v) 0)))

pub is_shown_combined : (v : Video) → Decides (shown_combined v) (ShownCombined v)
unfolding shown_combined
is_shown_combined v = either (is_full v) (is_under_d v)

pub is_combined : (v : Video) → Decides (video_combined v) (VideoCombined v)
unfolding video_combined
is_combined v = either (together (equal v.link 0) (opposite (equal v.encoding 0))) (either (is_deep v) (is_shown_combined v))

-- ---- a mode that is offered is one of the table's

abbrev small : Mode → Bool
small m = ltb m.vic 64 && leb m.families 2

row_small : (vic family : ℕ) (ms : List Mode) → every small ms ≡ true → family < (row_of vic ms).families → (vic < 64) × (family < 2)
row_small vic family [] t h = absurd (omega arith)
row_small vic family (m ∷ ms) t h =
    go (eqb m.vic vic) refl (both_left (small m) (every small ms) t) h (row_small vic family ms (both_right (small m) (every small ms) t))
  where
    go : (b : Bool) → eqb m.vic vic ≡ b → small m ≡ true → family < (cond b m (row_of vic ms)).families
        → (family < (row_of vic ms).families → (vic < 64) × (family < 2)) → (vic < 64) × (family < 2)
    go true e s l ih =
        let v : m.vic < 64 = ltb-true _ _ (both_left _ (leb m.families 2) s) in
        let f : m.families ≤ 2 = leb-true _ _ (both_right (ltb m.vic 64) _ s) in
        let q : m.vic ≡ vic = eqb-true _ _ e in
        (omega arith, omega arith)
    go false e s l ih = ih l

module _ (v : Video) (f : VideoFits v) where
  in_table : (v.vic < 64) × (v.family < 2)
  unfolding mode_of
  in_table = row_small v.vic v.family modes refl (ltb-true v.family (row_of v.vic modes).families f.offered)

  pub vic_small : v.vic < 64
  vic_small = in_table.0

  pub family_small : v.family < 2
  family_small = in_table.1

  pub is_listed : (mode_of v.vic).families ≢ 0
  is_listed e = omega (arith, ltb-true v.family (mode_of v.vic).families f.offered)

  pub encoding_fits : v.encoding ≤ 2
  encoding_fits = at_most 2 v.encoding (λ h. f.inside (inr (inr (inl h))))

  pub link_fits : v.link ≤ 1
  link_fits = at_most 1 v.link (λ h. f.inside (inl h))

  pub range_fits : v.range ≤ 1
  range_fits = at_most 1 v.range (λ h. f.inside (inr (inr (inr (inl h)))))

  pub depth_fits : depth v ≤ 2
  depth_fits = at_most 2 (depth v) (λ h. f.inside (inr (inl h)))

  pub repetition_fits : repetition v ≤ 2
  repetition_fits = at_most 2 (repetition v) (λ h. f.inside (inr (inr (inr (inr (inl h))))))

  pub edition_inside : EditionOutside v → ⊥
  edition_inside h = f.inside (inr (inr (inr (inr (inr h)))))

  pub edition_fits : edition_number v ≤ 1
  edition_fits = at_most 1 (edition_number v) (λ h. edition_inside (inl h))

  pub ycc_fits : ycc_quantisation v ≤ 1
  ycc_fits = at_most 1 (ycc_quantisation v) (λ h. edition_inside (inr (inl h)))

  pub no_more : v.edition / 64 ≤ 0
  no_more = at_most 0 (v.edition / 64) (λ h. edition_inside (inr (inr h)))

  pub asked_under_e : AsksE v → edition_number v ≢ 0
  asked_under_e asks e = f.apart (inr (inr (inr (e, asks))))

  pub range_limited : v.encoding ≢ 0 → v.range ≡ 0
  range_limited h = go (eqb v.range 1) refl
    where
      go : (b : Bool) → eqb v.range 1 ≡ b → v.range ≡ 0
      go true e = absurd (f.apart (inr (inr (inl (eqb-true v.range 1 e, h)))))
      go false e = omega (arith, range_fits, eqb-false v.range 1 e)
