-- Document 01, "The request": the video section, with the range byte of document 02, request 01, the depth byte of request 06, and the
-- edition byte of request 11. A later byte of it is a field here.
use Rattle.std.specs.Prelude.{◌≡◌, ◌≢◌, ◌⊎◌, cond, List, [], ◌∷◌, ℕ, ◌/◌, ◌%◌, ◌<◌, eqb, get_or}
use Rattle.video.specs.declared.Video.{Video}

-- "Video, count ..: VIC; family ..; encoding ..; link .."; request 01: "The video section gains a range byte (0 limited, 1 full; count 5)";
-- request 06: "Depth is a byte at the end of the video section"; request 11: "One byte at the end of the video section"
abbrev pub video_count : ℕ
video_count = 7

-- what a body asks for, and the body that asks for it; `pixel` is the depth byte whole, `edition` the edition byte whole
abbrev pub video_in : List ℕ → Video
video_in body =
    record {
      vic = get_or body 0 0;
      family = get_or body 1 0;
      encoding = get_or body 2 0;
      link = get_or body 3 0;
      range = get_or body 4 0;
      pixel = get_or body 5 0;
      edition = get_or body 6 0;
    }

abbrev pub video_body : Video → List ℕ
video_body v = v.vic ∷ v.family ∷ v.encoding ∷ v.link ∷ v.range ∷ v.pixel ∷ v.edition ∷ []

-- request 06: the depth is the byte's "lower half", 0, 1 or 2 for 24, 30 and 36 bits; "Pixel repetition (none, 2, 4)" is 0, 1 or 2 "in that
-- byte's upper half"
abbrev pub depth : Video → ℕ
depth v = v.pixel % 16

abbrev pub repetition : Video → ℕ
repetition v = v.pixel / 16

-- the largest number of either half
abbrev pub half_most : ℕ
half_most = 2

-- request 11: the edition byte "names the edition in bits 1:0, the quantisation in 3:2 and the content type in 5:4"; an edition is 0 for
-- 861-D and 1 for 861-E
abbrev pub edition_number : Video → ℕ
edition_number v = v.edition % 4

abbrev pub ycc_quantisation : Video → ℕ
ycc_quantisation v = v.edition / 4 % 4

abbrev pub content_type : Video → ℕ
content_type v = v.edition / 16 % 4

-- E's bits: it asks for either of the two
abbrev pub AsksE : Video → Type 0
AsksE v = (ycc_quantisation v ≢ 0) ⊎ (content_type v ≢ 0)

-- what stands beside a refusal: each field 0
abbrev pub no_video : Video
no_video = video_in []

-- the same in another family, and with another edition byte
abbrev pub recast : ℕ → ℕ → Video → Video
recast family edition v =
    record {
      vic = v.vic;
      family = family;
      encoding = v.encoding;
      link = v.link;
      range = v.range;
      pixel = v.pixel;
      edition = edition;
    }

abbrev pub in_family : ℕ → Video → Video
in_family family v = recast family v.edition v

abbrev pub in_edition : ℕ → Video → Video
in_edition edition v = recast v.family edition v

-- "the same request, but for the frame-rate family": "Family is answered as 0"; and request 11's one exception more: "an E request that
-- asks for none of them reads back as D". That byte is 0x01, and D's 0x00. `Exception` says that nothing else is lost.
abbrev pub answered_edition : ℕ → ℕ
answered_edition byte = cond (eqb byte 0x01) 0x00 byte

abbrev pub answered : Video → Video
answered v = recast 0 (answered_edition v.edition) v

-- row 5, of this section: "any other field outside its range"; request 01: "range above 1 is refusal 5"; request 06: "a value outside its
-- range is 5"; request 11: "edition or quantisation above 1, or bits 7:6, is 5". First of the edition byte and of the fields that the AVI
-- InfoFrame shows, then of all; the VIC and the family are row 4's (`offered`, Modes).
abbrev pub EditionOutside : Video → Type 0
EditionOutside v = (1 < edition_number v) ⊎ (1 < ycc_quantisation v) ⊎ (0 < v.edition / 64)

abbrev pub ShownOutside : Video → Type 0
ShownOutside v = (2 < v.encoding) ⊎ (1 < v.range) ⊎ (half_most < repetition v) ⊎ EditionOutside v

abbrev pub VideoOutside : Video → Type 0
VideoOutside v = (1 < v.link) ⊎ (half_most < depth v) ⊎ ShownOutside v

-- and of the fields from which the clock is made
abbrev pub PixelOutside : Video → Type 0
PixelOutside v = (half_most < depth v) ⊎ (half_most < repetition v)

-- row 6, of this section alone: request 01, "range 1 with YCbCr is refusal 6"; request 06, "more than 24 bits with 4:2:2 or DVI is 6";
-- request 11, "E's bits under D are 6"; "DVI .. with encoding not 0". Of what the AVI InfoFrame shows, then of all
abbrev pub FullYCbCr : Video → Type 0
FullYCbCr v = (v.range ≡ 1) × (v.encoding ≢ 0)

abbrev pub DeepApart : Video → Type 0
DeepApart v = (depth v ≢ 0) × ((v.encoding ≡ 1) ⊎ (v.link ≡ 0))

abbrev pub AskedUnderD : Video → Type 0
AskedUnderD v = (edition_number v ≡ 0) × AsksE v

abbrev pub ShownCombined : Video → Type 0
ShownCombined v = FullYCbCr v ⊎ AskedUnderD v

abbrev pub VideoCombined : Video → Type 0
VideoCombined v = ((v.link ≡ 0) × (v.encoding ≢ 0)) ⊎ DeepApart v ⊎ ShownCombined v
