-- The tests that decide rows 5 and 6 of the video section, as `request::rows`, `frames::frame_refusals` and `clock::clock_refusals` say.
use Rattle.std.specs.Prelude.{Bool, not, ◌&&◌, ◌||◌, ◌/◌, eqb, ltb}
use Rattle.video.specs.declared.Video.{Video}
use Rattle.video.specs.Video.{depth, repetition, half_most, edition_number, ycc_quantisation, content_type}

abbrev pub edition_outside : Video → Bool
edition_outside v = ltb 1 (edition_number v) || (ltb 1 (ycc_quantisation v) || ltb 0 (v.edition / 64))

unfoldable pub shown_outside : Video → Bool
shown_outside v = ltb 2 v.encoding || (ltb 1 v.range || (ltb half_most (repetition v) || edition_outside v))

unfoldable pub video_outside : Video → Bool
video_outside v = ltb 1 v.link || (ltb half_most (depth v) || shown_outside v)

abbrev pub pixel_outside : Video → Bool
pixel_outside v = ltb half_most (depth v) || ltb half_most (repetition v)

abbrev pub full_ycbcr : Video → Bool
full_ycbcr v = eqb v.range 1 && not (eqb v.encoding 0)

abbrev pub deep_apart : Video → Bool
deep_apart v = not (eqb (depth v) 0) && (eqb v.encoding 1 || eqb v.link 0)

abbrev pub asked_under_d : Video → Bool
asked_under_d v = eqb (edition_number v) 0 && (not (eqb (ycc_quantisation v) 0) || not (eqb (content_type v) 0))

unfoldable pub shown_combined : Video → Bool
shown_combined v = full_ycbcr v || asked_under_d v

unfoldable pub video_combined : Video → Bool
video_combined v = (eqb v.link 0 && not (eqb v.encoding 0)) || (deep_apart v || shown_combined v)
