-- The marked cases: each computes, but for the reason of case 9, which is a law of the clock. Assumes nothing.
use mathlib.Core.Path.{◌≡◌, refl, ◌∙◌}
use mathlib.Core.Bool.{true, false, cond}
use mathlib.Core.List.{List, [], ◌∷◌, map, flat_map}
use Prim.Native.Nat.{ℕ, zero, suc, ◌*◌, ◌<◌, ◌≤◌, ◌∣◌}
use native.Mathlib.Omega.{arith}
use lib.Dec.{eqb, ltb, lit<, lit≤}
use lib.ListN.{length, replicate}
use borrow.Author.Tests.{eqb-true, ltb-true}
use Rattle.lists.specs.Find.{every}
use Rattle.lists.proofs.Both.{both_left, both_right}
use Rattle.bits.proofs.Below.{at_below}
use Rattle.video.specs.declared.Video.{Video}
use Rattle.ratio.specs.Terms.{euclid, divisor_of}
use Rattle.wiring.specs.Kinds.{kind_of}
use Rattle.wiring.specs.Tests.{wiring_outside}
use Rattle.video.specs.Modes.{mode_of}
use Rattle.video.specs.Video.{no_video, in_edition}
use Rattle.video.specs.Tests.{edition_outside, asked_under_d, shown_outside, video_outside, shown_combined, video_combined}
use Rattle.sound.specs.Coded.{rate_of}
use Rattle.clock.specs.Clocks.{tmds}
use Rattle.clock.specs.Answers.{clock_of}
use Rattle.clock.specs.Pairs.{reference, recommended_of}
use Rattle.clock.specs.Found.{nearest_k, nearest_in, nearest_of, exactly, coherent_of, pair_of}
use Rattle.blanking.specs.Found.{highest_of, beyond}
use Rattle.ratio.proofs.Multiples.{divides}
use Rattle.frames.specs.Frames.{total, avi_frame}
use Rattle.frames.specs.Audio.{audio_frame, audio_off_frame}
use Rattle.frames.specs.Answers.{avi_of, audio_of}
use Rattle.frames.proofs.Refused.{avi_by_edition}
use Rattle.matrix.specs.Matrix.{fields, Bytes}
use Rattle.matrix.specs.Tests.{in_range, is_allowed, matrix_in_range}
use Rattle.matrix.specs.Preview.{code_of, preview_of}
use Rattle.request.specs.Sections.{walk, walked}
use Rattle.request.specs.Read.{outside, combined, judged, read_of, allowed_of, pair_for, ncts_of}
use Rattle.line.specs.Line.{line_of}
use Rattle.line.specs.Words.{digits, accepted_text, refused_text}
use Rattle.bits.specs.Merge.{merge}
use Rattle.registers.specs.Classes.{class_at}
use Rattle.writes.specs.Steps.{middle}
use Rattle.writes.specs.List.{decided, byte, written, is_written, finished, finished_image, stands_below, column, flat, already_there}
use Rattle.plan.specs.Wanted.{wanted}
use Rattle.plan.specs.Plan.{later_refusal, plan_with, buffer_with, plan_of, plan_buffer, stands_in}
use Rattle.request.specs.Bytes.{as_bytes, as_read_back}
use Rattle.writes.proofs.Image.{image_length_lem, image_at}
use Rattle.decode.specs.Extract.{extract}
use Rattle.decode.specs.Decode.{some_ends, decode_refusal, decode_of}
use Rattle.decode.specs.Theorems.{Answered}
use Rattle.decode.proofs.Answers.{read_back_lem}
use Rattle.chip.specs.Write.{lent_as}
use Rattle.vendor.specs.Found.{vet_refusal, vet_of}
use Rattle.promises.specs.Rules.{asked}
use Rattle.promises.specs.Worked.{zeros, Few, FewDeep, FewEditions}
use Rattle.promises.specs.Cases.{rgb_over_hdmi, asked16, edition_refusal, eight, MarkedCases}

multiple : (n cts : ℕ) → reference 0 * cts * (clock_of (rgb_over_hdmi 4 1)).den ≡ (clock_of (rgb_over_hdmi 4 1)).num * n → 23296 ∣ n
unfolding reference tmds clock_of mode_of divisor_of euclid
multiple n cts e = divides 6750000000 372736000 (lit< tt) n cts (omega arith)

few : Few
unfolding flat_map euclid divisor_of mode_of tmds clock_of highest_of beyond reference recommended_of nearest_k nearest_in nearest_of exactly coherent_of pair_of total avi_frame audio_frame fields in_range is_allowed walk walked kind_of wiring_outside video_outside shown_outside video_combined shown_combined outside combined judged read_of pair_for merge class_at decided byte written middle is_written finished column flat already_there wanted later_refusal plan_with buffer_with plan_of plan_buffer
few = (refl, refl)

few_deep_lem : FewDeep
unfolding flat_map euclid divisor_of mode_of tmds clock_of highest_of beyond reference recommended_of nearest_k nearest_in nearest_of exactly coherent_of pair_of total avi_frame audio_frame audio_off_frame fields in_range is_allowed walk walked kind_of wiring_outside video_outside shown_outside video_combined shown_combined outside combined judged read_of pair_for merge class_at decided byte written middle is_written finished column flat already_there wanted later_refusal plan_with buffer_with plan_of plan_buffer
few_deep_lem = (refl, refl)

sound : map (λ input. (plan_of input zeros zeros).refusal)
    (eight 2 0x00 2 ∷ eight 2 0x00 3 ∷ eight 1 0x00 2 ∷ eight 1 0x00 3 ∷ eight 17 0x00 2 ∷ eight 17 0x00 3 ∷ eight 5 0x00 6 ∷ eight 20 0x00 6 ∷
    eight 2 0x10 5 ∷ eight 2 0x10 6 ∷ []) ≡ 0 ∷ 20 ∷ 0 ∷ 20 ∷ 0 ∷ 20 ∷ 0 ∷ 0 ∷ 0 ∷ 20 ∷ []
unfolding euclid divisor_of mode_of tmds clock_of highest_of beyond pair_of is_allowed walk walked kind_of wiring_outside video_outside shown_outside video_combined shown_combined outside combined judged read_of pair_for later_refusal plan_with plan_of
sound = refl

sound_decoded_lem : map (λ rate. (decode_of (finished_image (asked (eight 2 0x00 rate)) zeros) zeros).refusal) (2 ∷ 3 ∷ []) ≡ 0 ∷ 11 ∷ []
unfolding flat_map euclid divisor_of mode_of tmds clock_of highest_of beyond reference recommended_of nearest_k nearest_in nearest_of exactly coherent_of pair_of total avi_frame audio_frame audio_off_frame fields in_range is_allowed walk walked kind_of wiring_outside video_outside shown_outside video_combined shown_combined outside combined judged read_of pair_for merge class_at decided byte written middle is_written finished column flat already_there wanted as_bytes extract matrix_in_range allowed_of stands_below stands_in rate_of some_ends decode_refusal decode_of
sound_decoded_lem = refl

sound_vetted_lem : map (λ rate. (vet_of (lent_as (finished_image (asked (eight 2 0x00 rate)) zeros) (replicate 32 0) (replicate 24 0) false) []).refusal)
    (2 ∷ 3 ∷ []) ≡ 0 ∷ 16 ∷ []
unfolding flat_map euclid divisor_of mode_of tmds clock_of highest_of beyond reference recommended_of nearest_k nearest_in nearest_of exactly coherent_of pair_of total avi_frame audio_frame audio_off_frame fields in_range is_allowed walk walked kind_of wiring_outside video_outside shown_outside video_combined shown_combined outside combined judged read_of pair_for merge class_at decided byte written middle is_written finished column flat already_there wanted as_bytes extract matrix_in_range allowed_of stands_below stands_in rate_of some_ends decode_refusal decode_of vet_refusal vet_of
sound_vetted_lem = refl

few_editions_lem : FewEditions
unfolding flat_map euclid divisor_of mode_of tmds clock_of highest_of beyond reference recommended_of nearest_k nearest_in nearest_of exactly coherent_of pair_of total avi_frame audio_frame audio_off_frame fields in_range is_allowed walk walked kind_of wiring_outside video_outside shown_outside video_combined shown_combined outside combined judged read_of pair_for merge class_at decided byte written middle is_written finished column flat already_there wanted later_refusal plan_with buffer_with plan_of plan_buffer
few_editions_lem = (refl, refl, refl)

-- each edition byte
by_byte : (edition : ℕ) → edition < 256 → let v : Video = in_edition edition no_video in
    cond (edition_outside v) 5 (cond (asked_under_d v) 6 0) ≡ edition_refusal edition
by_byte edition h = eqb-true _ _ (at_below (λ e. let v : Video = in_edition e no_video in
    eqb (cond (edition_outside v) 5 (cond (asked_under_d v) 6 0)) (edition_refusal e)) 256 edition refl h)

editions_avi_lem : (v : Video) → (avi_of (in_edition 0x00 v)).refusal ≡ 0
    → (edition : ℕ) → edition < 256 → (avi_of (in_edition edition v)).refusal ≡ edition_refusal edition
editions_avi_lem v z edition h = avi_by_edition (in_edition edition v) z ∙ by_byte edition h

-- a list of bytes
bytes : (l : List ℕ) → every (λ b. ltb b 256) l ≡ true → Bytes l
bytes [] t i = lit< tt
bytes (x ∷ l) t zero = ltb-true _ _ (both_left _ (every (λ b. ltb b 256) l) t)
bytes (x ∷ l) t (suc i) = bytes l (both_right (ltb x 256) _ t) i

-- the finished image of an accepted request reads back
pub reads_back : (input : List ℕ) → every (λ b. ltb b 256) input ≡ true → (read_of input).refusal ≡ 0 → (pair_for (read_of input).request).refusal ≡ 0
    → (room : List ℕ) → 51 ≤ length room → Answered (as_read_back input) (finished_image (asked input) zeros) room
reads_back input t z y room h =
    (read_back_lem input zeros (finished_image (asked input) zeros)).answered
    (record { bytes = bytes input t; read = z; paired = y; sized = image_length_lem (asked input) zeros; registers = image_at (asked input) zeros }) room h

pub cases : MarkedCases
unfolding flat_map euclid divisor_of mode_of tmds clock_of highest_of beyond reference recommended_of nearest_k nearest_in nearest_of exactly coherent_of pair_of total avi_frame avi_of audio_frame audio_of audio_off_frame fields in_range is_allowed code_of preview_of walk walked kind_of wiring_outside video_outside shown_outside video_combined shown_combined outside combined judged read_of pair_for ncts_of line_of digits accepted_text refused_text plan_of
cases =
    record {
      line = refl;
      line_full = refl;
      empty = refl;
      case1 = refl;
      case2 = refl;
      case2_four = refl;
      case2_six = refl;
      case3 = refl;
      case4 = (refl, refl);
      case5 = refl;
      case6 = refl;
      case7 = refl;
      case8 = refl;
      case9 = refl;
      case9_for = multiple;
      recommended = refl;
      case10 = refl;
      case10_full = refl;
      case10_ycbcr = refl;
      ranges_avi = refl;
      case11 = (refl, refl);
      case12 = (refl, refl);
      case13 = refl;
      deep = (refl, refl);
      deep_row = (refl, refl);
      twice_row = (refl, refl);
      lowest = (refl, refl);
      twice = (refl, refl);
      limits = (refl, refl);
      before_seven = refl;
      after_six = refl;
      nine_deep = refl;
      one_family = (refl, refl);
      depths_alone = (refl, refl, refl);
      rates = refl;
      four_times = refl;
      both_halves = refl;
      factors = refl;
      both_row = refl;
      avi_alone = refl;
      few_deep = few_deep_lem;
      editions_avi = editions_avi_lem;
      clock_alone = λ v. refl;
      plain = refl;
      type_one = refl;
      nothing = refl;
      both_asked = refl;
      few_editions = few_editions_lem;
      readers = refl;
      reads_as_d = reads_back (asked16 0 1 0x00 0x01) refl refl refl;
      reads_as_e = reads_back (asked16 0 1 0x00 0x11) refl refl refl;
      with_meter = refl;
      sound = sound;
      sound_first = refl;
      sound_line = refl;
      sound_more = λ rate higher h. ((h, lit≤ tt), (h, lit≤ tt));
      sound_mode = (refl, refl);
      sound_decoded = sound_decoded_lem;
      sound_vetted = sound_vetted_lem;
      few = few;
      full_with_ycbcr_avi = refl;
      full_over_dvi = refl;
      full_with_vic1 = refl;
      lengths = refl;
      longest = refl;
    }
