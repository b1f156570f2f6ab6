-- What the calls on a request answer, as the code finds it. `Rows` (Theorems) and `ThereAndBack` tie it to document 01's rows
-- and bytes, `OnSomeImage` (promises) `pair_for` to what is accepted.
use Rattle.std.specs.Prelude.{◌≡◌, Bool, true, false, not, ◌&&◌, ◌||◌, List, [], ◌∷◌, ℕ, eqb, length}
use Rattle.clock.specs.Numbered.{Pair}
use Rattle.wiring.specs.declared.Wiring.{Wiring}
use Rattle.wiring.specs.Kinds.{rgb_in}
use Rattle.wiring.specs.Wiring.{wiring_in, wires_of}
use Rattle.wiring.specs.Tests.{wiring_outside}
use Rattle.video.specs.declared.Video.{Video}
use Rattle.video.specs.Video.{video_in}
use Rattle.video.specs.Tests.{video_outside, video_combined}
use Rattle.video.specs.Modes.{offered}
use Rattle.sound.specs.declared.Sound.{Sound}
use Rattle.sound.specs.declared.Sound.TheVariants.{Off, On}
use Rattle.sound.specs.Sound.{sound_of}
use Rattle.sound.specs.Tests.{is_on, sound_outside}
use Rattle.clock.specs.Answers.{clock_of}
use Rattle.clock.specs.Answers.{no_pair, audio_off}
use Rattle.clock.specs.Found.{pair_of}
use Rattle.blanking.specs.Found.{too_much}
use Rattle.matrix.specs.Tests.{is_allowed, matrix_in_range}
use Rattle.request.specs.declared.Request.{Request}
use Rattle.request.specs.Numbered.{Checked, emptied}
use Rattle.request.specs.Sections.{Bodies, Walk, ends, not_allowed, whole, walked, bodies_in, rest_of}
use Rattle.request.specs.Request.{present, request_in, rgb_out}
use Rattle.refusals.specs.Rows.{number}
use Rattle.refusals.specs.Tests.{Test, ◌if◌, lowest, answer}
use Rattle.refusals.specs.Rows.{input_ends, count_not_allowed, bytes_after, mode_not_offered, field_out_of_range, combination, clock_above, sound_too_much}

-- the tests of row 5 and row 6 of a request in hand: its wiring, its video, its sound, and of its matrix whether it is outside its range and
-- whether there is none
abbrev pub outside_in : Wiring → Video → Sound → Bool → Bool
outside_in wiring video sound spoiled = wiring_outside wiring || (video_outside video || (sound_outside sound || spoiled))

abbrev pub converts_in : Bool → Bool → Bool
converts_in into out = (into && not out) || (not into && out)

abbrev pub combined_in : Wiring → Video → Sound → Bool → Bool
combined_in wiring video sound bare =
    (converts_in (rgb_in (wires_of wiring).input) (rgb_out video) && bare) || ((eqb video.link 0 && is_on sound) || video_combined video)

-- and so of the bodies
unfoldable pub outside : Bodies → Bool
outside b = outside_in (wiring_in b.wiring) (video_in b.video) (sound_of b.audio) (present b.matrix && not (is_allowed b.matrix))

unfoldable pub combined : Bodies → Bool
combined b = combined_in (wiring_in b.wiring) (video_in b.video) (sound_of b.audio) (eqb (length b.matrix) 0)

abbrev pub is_ends : Walk → Bool
is_ends ends = true
is_ends not_allowed = false
is_ends (whole bodies rest) = false

abbrev pub is_not_allowed : Walk → Bool
is_not_allowed ends = false
is_not_allowed not_allowed = true
is_not_allowed (whole bodies rest) = false

-- the stages, a line for each row: they decide the conditions of `read_rules` (`Rows`)
abbrev pub bytes_tests : Walk → List Test
bytes_tests w =
    input_ends if is_ends w ∷
    count_not_allowed if is_not_allowed w ∷
    bytes_after if present (rest_of w) ∷ []

abbrev pub field_tests : Video → Bool → Bool → List Test
field_tests video out together =
    mode_not_offered if not (offered video) ∷
    field_out_of_range if out ∷
    combination if together ∷ []

abbrev pub fields_tests : Bodies → List Test
fields_tests b = field_tests (video_in b.video) (outside b) (combined b)

abbrev pub limits_tests : Video → Sound → List Test
limits_tests video sound =
    clock_above if eqb (clock_of video).refusal (number clock_above) ∷
    sound_too_much if too_much video sound ∷ []

-- rows 4 to 6 of the bodies, and rows 1 to 3 before them
unfoldable pub judged : Bodies → Checked
judged b = answer (lowest (fields_tests b)) emptied (record { refusal = 0; request = request_in b })

abbrev pub checked : Walk → Checked
checked w = answer (lowest (bytes_tests w)) emptied (judged (bodies_in w))

-- the request that an input asks for: refusals 1 to 6
abbrev pub ask_of : List ℕ → Checked
ask_of input = checked (walked input)

abbrev pub Asks : List ℕ → Checked → Type 0
Asks input given = given ≡ ask_of input

-- refusals 17 and 20 of a video and a sound
abbrev pub limit_of : Video → Sound → ℕ
limit_of video sound = lowest (limits_tests video sound)

-- rows 4 to 6, 17 and 20 of a request in hand: `InHand` ties them to its bytes
abbrev pub hand_tests : Request → List Test
hand_tests r =
    let video : Video = r.video in
    field_tests video (outside_in r.wiring video r.sound (not (matrix_in_range r.matrix)))
    (combined_in r.wiring video r.sound (eqb r.matrix.on 0))

unfoldable pub allowed_of : Request → ℕ
allowed_of r = answer (lowest (hand_tests r)) (λ n. n) (limit_of r.video r.sound)

-- and rows 17 and 20 of what is known of a request, which stays known
abbrev pub limited : Checked → Checked
limited c = record { refusal = answer c.refusal (λ n. n) (limit_of c.request.video c.request.sound); request = c.request }

-- a request read from an input: refusals 1 to 6, 17 and 20
unfoldable pub read_of : List ℕ → Checked
read_of input = limited (ask_of input)

-- what reading promises
abbrev pub Reads : List ℕ → Checked → Type 0
Reads input given = given ≡ read_of input

-- N and CTS for a request: refusal 9
abbrev pub pair_in : Request → Sound → Pair
pair_in r Off = audio_off
pair_in r (On rate channels coherent) = pair_of r.video rate coherent

unfoldable pub pair_for : Request → Pair
pair_for r = pair_in r r.sound

abbrev pub Pairs : Request → Pair → Type 0
Pairs r given = given ≡ pair_for r

-- N and CTS over a request slice: refusals 1 to 6, 17, 20 and 9
unfoldable pub ncts_of : List ℕ → Pair
ncts_of input = answer (read_of input).refusal no_pair (pair_for (read_of input).request)

abbrev pub PairsInput : List ℕ → Pair → Type 0
PairsInput input given = given ≡ ncts_of input
