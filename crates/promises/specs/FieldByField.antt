-- An image that decodes, field by field: document 01, the paragraph on decoding, with requests 01, 06 and 11 of document 02.
use Rattle.std.specs.Prelude.{◌≡◌, ◌≢◌, ◌⊎◌, false, cond, List, [], ◌∷◌, ℕ, ◌<◌, ◌≤◌, eqb, length, get_or}
use Rattle.lists.specs.Among.{among}
use Rattle.bits.specs.Merge.{bits_in}
use Rattle.video.specs.Video.{edition_number}
use Rattle.request.specs.declared.Request.{Request}
use Rattle.request.specs.Sections.{longest}
use Rattle.request.specs.Read.{ncts_of}
use Rattle.request.specs.Bytes.{as_bytes, request_in_family}
use Rattle.decode.specs.Ends.{Ends}
use Rattle.decode.specs.Decode.{decode_of}
use Rattle.plan.specs.Places.{depth_numbers}
use Rattle.promises.specs.Finished.{FinishedFields}

-- an image in which a request ends has that request's numbers in its named fields, in the family in which it ends
pub record FieldByField (image : List ℕ) : Type 0 where
  pub stands : length image ≡ 256 → (r : Request) (e : Ends r image)
      → let q : Request = request_in_family e.family r in FinishedFields q (ncts_of (as_bytes q)) image
  -- so RGB with a Q of neither 1 nor 2, as a list made before request 01 left it, decodes to nothing, and YCbCr with a Q that is not 0
  pub no_range : length image ≡ 256
      → among (bits_in 3 2 (get_or image 0x57 0)) (cond (eqb (bits_in 6 5 (get_or image 0x55 0)) 0) (1 ∷ 2 ∷ []) (0 ∷ [])) ≡ false
      → (room : List ℕ) → longest ≤ length room → (decode_of image room).refusal ≡ 11
  -- and so do a depth other than that of 24, 30 or 36 bits, a PR of no repetition, and two fields of 0x3B that differ
  pub no_depth : length image ≡ 256 → among (bits_in 3 0 (get_or image 0x4C 0)) depth_numbers ≡ false
      → (room : List ℕ) → longest ≤ length room → (decode_of image room).refusal ≡ 11
  pub no_repetition : length image ≡ 256
      → (among (bits_in 3 0 (get_or image 0x59 0)) (0 ∷ 1 ∷ 3 ∷ []) ≡ false) ⊎ (bits_in 4 3 (get_or image 0x3B 0) ≢ bits_in 2 1 (get_or image 0x3B 0))
      → (room : List ℕ) → longest ≤ length room → (decode_of image room).refusal ≡ 11
  -- and a YQ above 1; otherwise the edition that is answered is E exactly where YQ or CN is not 0
  pub no_quantisation : length image ≡ 256 → 1 < bits_in 7 6 (get_or image 0x59 0)
      → (room : List ℕ) → longest ≤ length room → (decode_of image room).refusal ≡ 11
  pub which_edition : length image ≡ 256 → (r : Request) → Ends r image → edition_number r.video ≡ cond (eqb (bits_in 7 4 (get_or image 0x59 0)) 0) 0 1
