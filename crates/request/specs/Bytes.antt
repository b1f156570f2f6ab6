-- Document 01, "The request": the bytes of a request, section by section; and the request as decoding answers it. `ThereAndBack`
-- ties them to what is read.
use Rattle.std.specs.Prelude.{cond, List, [], ◌∷◌, ◌++◌, ℕ, eqb, length}
use Rattle.wiring.specs.Wiring.{wiring_body}
use Rattle.video.specs.declared.Video.{Video}
use Rattle.video.specs.Video.{video_in, video_body, answered}
use Rattle.video.specs.Video as video
use Rattle.sound.specs.Sound.{audio_body}
use Rattle.matrix.specs.declared.Matrix.{Matrix}
use Rattle.matrix.specs.Coefficient.{coefficient_bytes}
use Rattle.request.specs.declared.Request.{Request}
use Rattle.request.specs.Sections.{Bodies, in_turn, walked, bodies_in}

-- the body of the matrix section: "CSC mode, then A1 to A4, B1 to B4, C1 to C4, each two bytes"
abbrev pub matrix_body : Matrix → List ℕ
matrix_body m = cond (eqb m.on 0) [] (m.mode ∷ coefficient_bytes m.coefficients)

-- sections "in this order, each after a one-byte count": a line for each section; count and body, count and body, and so on, and then
-- the rest
abbrev pub bodies_of : Request → Bodies
bodies_of r =
    record {
      wiring = wiring_body r.wiring;
      video = video_body r.video;
      audio = audio_body r.sound;
      matrix = matrix_body r.matrix;
    }

abbrev pub laid : List (List ℕ) → List ℕ → List ℕ
laid [] rest = rest
laid (body ∷ bodies) rest = length body ∷ (body ++ laid bodies rest)

unfoldable pub as_bytes : Request → List ℕ
as_bytes r = laid (in_turn (bodies_of r)) []

-- "that request in one of its families"; and, "the same request, but for the frame-rate family", and for an E that
-- asks for nothing, as decoding answers it: another video alone
abbrev pub on_video : (Video → Video) → Request → Request
on_video f r = record { wiring = r.wiring; video = f r.video; sound = r.sound; matrix = r.matrix }

abbrev pub request_in_family : ℕ → Request → Request
request_in_family family r = on_video (video.in_family family) r

abbrev pub answered_as : Request → Request
answered_as r = on_video answered r

-- the same of the bytes of an input: another video section alone. `ThereAndBack` says that the two agree.
abbrev pub with_video : List ℕ → Bodies → Bodies
with_video body b = record { wiring = b.wiring; video = body; audio = b.audio; matrix = b.matrix }

abbrev pub new_video : (List ℕ → List ℕ) → List ℕ → List ℕ
new_video f input = let b : Bodies = bodies_in (walked input) in laid (in_turn (with_video (f b.video) b)) []

abbrev pub as_read_back : List ℕ → List ℕ
as_read_back = new_video (λ body. video_body (answered (video_in body)))
