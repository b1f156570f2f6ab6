-- Document 01, "The request": the fields of a request, and when each row of the list of refusals applies to it. The rows come in stages, of
-- which each call checks some: bytes (1 to 3), fields (4 to 6), limits (17, 20), pair (9); image (7, 8) and buffer (10) are planning's (plan).
use Rattle.std.specs.Prelude.{◌≡◌, ◌≢◌, ◌⊎◌, Bool, false, cond, not, List, [], ◌∷◌, ◌++◌, ℕ, eqb, length}
use Rattle.refusals.specs.Rows.{Condition, ◌when◌}
use Rattle.refusals.specs.Rows.{input_ends, count_not_allowed, bytes_after, mode_not_offered, field_out_of_range, combination, clock_above, sound_too_much, no_exact_pair}
use Rattle.wiring.specs.declared.Wiring.{Wiring}
use Rattle.wiring.specs.Kinds.{rgb_in}
use Rattle.wiring.specs.Wiring.{wiring_in, wires_of, WiringOutside}
use Rattle.video.specs.declared.Video.{Video}
use Rattle.video.specs.Video.{video_in, VideoOutside, VideoCombined}
use Rattle.video.specs.Modes.{offered}
use Rattle.sound.specs.declared.Sound.{Sound}
use Rattle.sound.specs.declared.Sound.TheVariants.{Off, On}
use Rattle.sound.specs.Sound.{sound_of, SoundOutside}
use Rattle.clock.specs.Answers.{clock_of}
use Rattle.clock.specs.Clocks.{tmds, AboveLimit}
use Rattle.clock.specs.Pairs.{NoExact}
use Rattle.blanking.specs.Table.{TooMuch}
use Rattle.matrix.specs.Matrix.{Allowed, matrix_of, no_matrix}
use Rattle.request.specs.declared.Request.{Request}
use Rattle.request.specs.Sections.{Bodies, Walk, ends, not_allowed, bodies_in, rest_of}

-- not empty
abbrev pub Present : List ℕ → Type 0
Present body = length body ≢ 0

abbrev pub present : List ℕ → Bool
present body = not (eqb (length body) 0)

-- what the sections say, a line for each: the converter is off where the matrix section is empty
abbrev pub request_in : Bodies → Request
request_in b =
    record {
      wiring = wiring_in b.wiring;
      video = video_in b.video;
      sound = sound_of b.audio;
      matrix = cond (present b.matrix) (matrix_of b.matrix) no_matrix;
    }

-- row 5, "any other field outside its range (matrix mode above 2)": of each section
abbrev pub Outside : Bodies → Type 0
Outside b =
    WiringOutside (wiring_in b.wiring)
    ⊎ VideoOutside (video_in b.video) ⊎ SoundOutside (sound_of b.audio) ⊎ (Present b.matrix × (Allowed b.matrix → ⊥))

-- row 6, "encoding not 0 without a matrix; DVI with audio or with encoding not 0": the last is the video section's,
-- and so is what concerns the range, the depth and the edition. Of the first request 02 says: "IDs 0 and 5 count as RGB; YCbCr input needs a
-- matrix only for RGB output". So one is needed where input and output are of different colour kinds
abbrev pub rgb_out : Video → Bool
rgb_out video = eqb video.encoding 0

abbrev pub Recolours : Wiring → Video → Type 0
Recolours wiring video = rgb_in (wires_of wiring).input ≢ rgb_out video

abbrev pub Combined : Bodies → Type 0
Combined b =
    let video : Video = video_in b.video in
    (Recolours (wiring_in b.wiring) video × (length b.matrix ≡ 0)) ⊎ ((video.link ≡ 0) × (sound_of b.audio ≢ Off)) ⊎ VideoCombined video

-- row 9, "coherent audio, and no exact pair exists": without audio it does not apply
abbrev pub NoPair : Video → Sound → Type 0
NoPair video Off = ⊥
NoPair video (On rate channels coherent) = NoExact (clock_of video) rate coherent

-- the stages: the bytes, by what the walk finds in the input; the fields, by the bodies; the limits, of the clock and of the sound, and the
-- pair, of the request
abbrev pub bytes_rows : Walk → List Condition
bytes_rows w =
    input_ends when (w ≡ ends) ∷
    count_not_allowed when (w ≡ not_allowed) ∷
    bytes_after when Present (rest_of w) ∷ []

abbrev pub fields_rows : Bodies → List Condition
fields_rows b =
    mode_not_offered when (offered (video_in b.video) ≡ false) ∷
    field_out_of_range when Outside b ∷
    combination when Combined b ∷ []

abbrev pub limits_rows : Video → Sound → List Condition
limits_rows video sound = clock_above when AboveLimit (tmds video) ∷ sound_too_much when TooMuch video sound ∷ []

abbrev pub pair_rows : Request → List Condition
pair_rows r = no_exact_pair when NoPair r.video r.sound ∷ []

-- the request that an input asks for; rows 1 to 6, where it is known; with 17 and 20, where it may be planned; with 9 too
abbrev pub request_of : Walk → Request
request_of w = request_in (bodies_in w)

abbrev pub ask_rules : Walk → List Condition
ask_rules w = bytes_rows w ++ fields_rows (bodies_in w)

abbrev pub read_rules : Walk → List Condition
read_rules w = ask_rules w ++ limits_rows (request_of w).video (request_of w).sound

abbrev pub ncts_rules : Walk → List Condition
ncts_rules w = read_rules w ++ pair_rows (request_of w)
