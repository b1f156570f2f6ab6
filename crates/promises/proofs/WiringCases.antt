-- The cases of the wiring section: each computes. Assumes nothing.
use mathlib.Core.Path.{◌≡◌, refl}
use mathlib.Core.Bool.{true}
use mathlib.Core.List.{List, [], ◌∷◌, map, flat_map}
use Prim.Native.Nat.{ℕ, ◌≤◌}
use lib.Dec.{ltb}
use lib.ListN.{length, replicate}
use Rattle.lists.specs.Find.{every}
use Rattle.ratio.specs.Terms.{euclid, divisor_of}
use Rattle.wiring.specs.Kinds.{kind_of}
use Rattle.wiring.specs.Tests.{wiring_outside}
use Rattle.video.specs.Modes.{mode_of}
use Rattle.video.specs.Tests.{shown_outside, video_outside, shown_combined, video_combined}
use Rattle.sound.specs.Coded.{rate_of}
use Rattle.clock.specs.Clocks.{tmds}
use Rattle.clock.specs.Answers.{clock_of}
use Rattle.clock.specs.Pairs.{reference, recommended_of}
use Rattle.clock.specs.Found.{nearest_k, nearest_in, nearest_of, exactly, coherent_of, pair_of}
use Rattle.blanking.specs.Found.{highest_of, beyond}
use Rattle.frames.specs.Frames.{total, avi_frame}
use Rattle.frames.specs.Audio.{audio_frame, audio_off_frame}
use Rattle.matrix.specs.Matrix.{fields}
use Rattle.matrix.specs.Tests.{in_range, is_allowed, matrix_in_range}
use Rattle.request.specs.Sections.{walk, walked}
use Rattle.request.specs.Read.{outside, combined, judged, read_of, allowed_of, pair_for}
use Rattle.request.specs.Bytes.{as_bytes, as_read_back}
use Rattle.bits.specs.Merge.{merge}
use Rattle.registers.specs.Classes.{class_at}
use Rattle.writes.specs.Rows.{from}
use Rattle.writes.specs.Steps.{middle}
use Rattle.writes.specs.List.{decided, byte, written, is_written, full_list, finished, stands_below, column, flat, already_there}
use Rattle.plan.specs.Wanted.{wanted}
use Rattle.plan.specs.Plan.{later_refusal, plan_with, buffer_with, plan_of, plan_buffer, stands_in}
use Rattle.decode.specs.Extract.{extract}
use Rattle.decode.specs.Decode.{some_ends, decode_refusal, decode_of}
use Rattle.decode.specs.Theorems.{Answered}
use Rattle.promises.specs.Rules.{asked}
use Rattle.promises.specs.Worked.{zeros}
use Rattle.promises.specs.WiringCases.{wired_to, camera, camera1080, fields_of, left_at, image_of, decodes_with, table32, table35, WiringCases}
use Rattle.promises.proofs.Cases.{reads_back}

board : map (λ input. (plan_of (wired_to 1 (camera1080 input)) zeros zeros).refusal) (2 ∷ 4 ∷ 8 ∷ []) ≡ 0 ∷ 0 ∷ 0 ∷ []
unfolding flat_map euclid divisor_of mode_of tmds clock_of highest_of beyond reference recommended_of nearest_k nearest_in nearest_of exactly coherent_of pair_of total avi_frame audio_frame audio_off_frame fields in_range is_allowed walk walked kind_of wiring_outside video_outside shown_outside video_combined shown_combined outside combined judged read_of pair_for merge class_at decided byte written middle is_written finished column flat already_there wanted later_refusal plan_with buffer_with plan_of plan_buffer
board = refl

-- of each ID its registers
leaves_board : map (λ input. left_at zeros (0x15 ∷ 0x16 ∷ 0x48 ∷ []) (wired_to 1 (camera1080 input))) (2 ∷ 4 ∷ 8 ∷ [])
    ≡ (0x22 ∷ 0x98 ∷ 0x10 ∷ []) ∷ (0x24 ∷ 0x98 ∷ 0x10 ∷ []) ∷ (0x28 ∷ 0x98 ∷ 0x10 ∷ []) ∷ []
unfolding flat_map euclid divisor_of mode_of tmds clock_of highest_of beyond reference recommended_of nearest_k nearest_in nearest_of exactly coherent_of pair_of total avi_frame audio_frame audio_off_frame fields in_range is_allowed walk walked kind_of wiring_outside video_outside shown_outside video_combined shown_combined outside combined judged read_of pair_for merge class_at decided byte written middle is_written finished column flat already_there wanted later_refusal plan_with buffer_with plan_of plan_buffer
leaves_board = refl

abbrev Accepted : ℕ → Type 0
Accepted input =
    ((read_of (wired_to 1 (camera1080 input))).refusal ≡ 0) × ((pair_for (read_of (wired_to 1 (camera1080 input))).request).refusal ≡ 0)

accepted : Accepted 2 × Accepted 4 × Accepted 8
unfolding flat_map euclid divisor_of mode_of tmds clock_of highest_of beyond reference recommended_of nearest_k nearest_in nearest_of exactly coherent_of pair_of total avi_frame audio_frame audio_off_frame fields in_range is_allowed walk walked kind_of wiring_outside video_outside shown_outside video_combined shown_combined outside combined judged read_of pair_for merge class_at decided byte written middle is_written finished column flat already_there wanted later_refusal plan_with buffer_with plan_of plan_buffer
accepted = ((refl, refl), (refl, refl), (refl, refl))

as_asked : (input : ℕ) → as_read_back (wired_to 1 (camera1080 input)) ≡ wired_to 1 (camera1080 input)
unfolding flat_map walk walked
as_asked input = refl

back : (input : ℕ) → every (λ b. ltb b 256) (wired_to 1 (camera1080 input)) ≡ true → Accepted input → (room : List ℕ) → 51 ≤ length room
    → Answered (wired_to 1 (camera1080 input)) (image_of (wired_to 1 (camera1080 input))) room
back input t a room h = rw (as_asked input) at (reads_back (wired_to 1 (camera1080 input)) t a.0 a.1 room h)

board_back_lem : (room : List ℕ) → 51 ≤ length room
    → Answered (wired_to 1 (camera1080 2)) (image_of (wired_to 1 (camera1080 2))) room
    × Answered (wired_to 1 (camera1080 4)) (image_of (wired_to 1 (camera1080 4))) room
    × Answered (wired_to 1 (camera1080 8)) (image_of (wired_to 1 (camera1080 8))) room
unfolding flat_map
board_back_lem room h = (back 2 refl accepted.0 room h, back 4 refl accepted.1 room h, back 8 refl accepted.2 room h)

syncs : map (λ numbers. left_at zeros (from 0x30 5) (wired_to 1 (camera 2 numbers))) table32 ≡ table35
unfolding flat_map euclid divisor_of mode_of tmds clock_of highest_of beyond reference recommended_of nearest_k nearest_in nearest_of exactly coherent_of pair_of total avi_frame audio_frame audio_off_frame fields in_range is_allowed walk walked kind_of wiring_outside video_outside shown_outside video_combined shown_combined outside combined judged read_of pair_for merge class_at decided byte written middle is_written finished column flat already_there wanted later_refusal plan_with buffer_with plan_of plan_buffer
syncs = refl

no_syncs_lem : left_at (replicate 256 0xFF) (from 0x30 5) (wired_to 1 (fields_of 1)) ≡ 0 ∷ 0 ∷ 0 ∷ 0 ∷ 0 ∷ []
unfolding flat_map euclid divisor_of mode_of tmds clock_of highest_of beyond reference recommended_of nearest_k nearest_in nearest_of exactly coherent_of pair_of total avi_frame audio_frame audio_off_frame fields in_range is_allowed walk walked kind_of wiring_outside video_outside shown_outside video_combined shown_combined outside combined judged read_of pair_for merge class_at decided byte written middle is_written finished column flat already_there wanted later_refusal plan_with buffer_with plan_of plan_buffer
no_syncs_lem = refl

today : left_at zeros (0x15 ∷ 0x16 ∷ 0x48 ∷ from 0x30 5) (wired_to 0 (0x00 ∷ [])) ≡ 0x20 ∷ 0x30 ∷ 0 ∷ 0 ∷ 0 ∷ 0 ∷ 0 ∷ 0 ∷ []
unfolding flat_map euclid divisor_of mode_of tmds clock_of highest_of beyond reference recommended_of nearest_k nearest_in nearest_of exactly coherent_of pair_of total avi_frame audio_frame audio_off_frame fields in_range is_allowed walk walked kind_of wiring_outside video_outside shown_outside video_combined shown_combined outside combined judged read_of pair_for merge class_at decided byte written middle is_written finished column flat already_there wanted later_refusal plan_with buffer_with plan_of plan_buffer
today = refl

older : map (decodes_with (wired_to 0 (0x00 ∷ []))) ((0x16, 0x30) ∷ (0x16, 0x00) ∷ (0x16, 0x10) ∷ (0x15, 0x29) ∷ []) ≡ 0 ∷ 11 ∷ 11 ∷ 11 ∷ []
unfolding flat_map euclid divisor_of mode_of tmds clock_of highest_of beyond reference recommended_of nearest_k nearest_in nearest_of exactly coherent_of pair_of total avi_frame audio_frame audio_off_frame fields in_range is_allowed walk walked kind_of wiring_outside video_outside shown_outside video_combined shown_combined outside combined judged read_of pair_for merge class_at decided byte written middle is_written finished column flat already_there wanted as_bytes extract matrix_in_range allowed_of stands_below stands_in rate_of some_ends decode_refusal decode_of
older = refl

strange : map (decodes_with (wired_to 1 (fields_of 1))) ((0x16, 0xA4) ∷ (0x16, 0xA0) ∷ (0x30, 0x01) ∷ (0x15, 0x20) ∷ []) ≡ 0 ∷ 11 ∷ 11 ∷ 11 ∷ []
unfolding flat_map euclid divisor_of mode_of tmds clock_of highest_of beyond reference recommended_of nearest_k nearest_in nearest_of exactly coherent_of pair_of total avi_frame audio_frame audio_off_frame fields in_range is_allowed walk walked kind_of wiring_outside video_outside shown_outside video_combined shown_combined outside combined judged read_of pair_for merge class_at decided byte written middle is_written finished column flat already_there wanted as_bytes extract matrix_in_range allowed_of stands_below stands_in rate_of some_ends decode_refusal decode_of
strange = refl

whole : length (full_list (asked (wired_to 0 (0x00 ∷ []))) zeros) ≡ 91
unfolding middle
whole = refl

pub wiring_cases : WiringCases
unfolding flat_map euclid divisor_of mode_of tmds clock_of highest_of beyond is_allowed walk walked kind_of wiring_outside video_outside shown_outside video_combined shown_combined outside combined judged read_of
wiring_cases =
    record {
      board = board;
      board_leaves = leaves_board;
      board_back = board_back_lem;
      from_ycbcr = refl;
      from_five = refl;
      from_zero = refl;
      id_zero = refl;
      id_zero_twelve = refl;
      id_nine = refl;
      twelve_one = refl;
      four_two = refl;
      beyond = refl;
      count_three = refl;
      inside = refl;
      syncs = syncs;
      no_syncs = no_syncs_lem;
      today = today;
      older = older;
      strange = strange;
      whole = whole;
    }
