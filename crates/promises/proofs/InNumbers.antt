-- What the papers say in numbers: each computes, but for the preview's rounding, which is a law of the matrix. Assumes nothing.
use mathlib.Core.Path.{◌≡◌, refl}
use mathlib.Core.Bool.{Bool, true, false}
use mathlib.Core.List.{List, flat_map}
use Prim.Native.Nat.{ℕ, ◌+◌, ◌*◌, ◌<◌}
use native.Mathlib.Omega.{arith}
use lib.IntN.{ℤ}
use lib.Signed.{shr_z}
use lib.ListN.{get_or}
use Rattle.ratio.specs.Terms.{euclid, divisor_of}
use Rattle.wiring.specs.Kinds.{kind_of}
use Rattle.wiring.specs.Tests.{wiring_outside}
use Rattle.video.specs.Modes.{mode_of}
use Rattle.video.specs.Tests.{video_outside, shown_outside, video_combined, shown_combined}
use Rattle.clock.specs.Clocks.{tmds}
use Rattle.clock.specs.Answers.{clock_of}
use Rattle.clock.specs.Pairs.{reference, recommended_of}
use Rattle.clock.specs.Found.{nearest_k, nearest_in, nearest_of, exactly, coherent_of, pair_of}
use Rattle.blanking.specs.Found.{highest_of, beyond}
use Rattle.frames.specs.Frames.{total, avi_frame}
use Rattle.frames.specs.Audio.{audio_frame, audio_off_frame}
use Rattle.frames.specs.Answers.{avi_of, audio_of}
use Rattle.matrix.specs.Numbered.{Pixel}
use Rattle.matrix.specs.Coefficient.{value_of}
use Rattle.matrix.specs.Matrix.{fields, matrix_of, Bytes, number_at}
use Rattle.matrix.specs.Tests.{in_range, is_allowed, matrix_in_range}
use Rattle.matrix.specs.Preview.{code_of, output_of, above, preview_of}
use Rattle.matrix.proofs.Numbers.{numbers}
use Rattle.matrix.proofs.Rounding.{down, holds}
use Rattle.request.specs.Sections.{walk, walked}
use Rattle.request.specs.Read.{outside, combined, judged, allowed_of, read_of, pair_for, ncts_of}
use Rattle.request.specs.Bytes.{as_bytes}
use Rattle.line.specs.Line.{line_of}
use Rattle.line.specs.Words.{digits, accepted_text, refused_text}
use Rattle.bits.specs.Merge.{merge}
use Rattle.registers.specs.Classes.{class_at}
use Rattle.writes.specs.Steps.{middle}
use Rattle.writes.specs.List.{decided, byte, written, is_written, finished, column, flat, already_there}
use Rattle.plan.specs.Wanted.{wanted}
use Rattle.plan.specs.Plan.{later_refusal, plan_with, buffer_with, plan_of, plan_buffer, stands_in}
use Rattle.chip.specs.Write.{refuses, write_of}
use Rattle.views.specs.Entry.{enter_of, turn_of}
use Rattle.views.specs.View.{lent_refusal, view_refusal, mute_of}
use Rattle.views.specs.Converter.{matrix_refusal, matrix_answer}
use Rattle.decode.specs.Extract.{extract}
use Rattle.decode.specs.Decode.{some_ends, decode_refusal, decode_of}
use Rattle.vendor.specs.Found.{vet_refusal, vet_of}
use Rattle.promises.specs.InNumbers.{RoundsInNumbers, formula, Calls, PairsInNumbers, Converts, LengthsInNumbers, ListsInNumbers, Landed, InNumbers}

calls : Calls
calls =
    record {
      all = refl;
      plan = λ input image buffer. refl;
      decode = λ image buffer. refl;
      write = λ l address value. refl;
      vsync = λ l. refl;
      view = λ image packet which. refl;
      mute = λ image packet. refl;
      matrix = λ image buffer out. refl;
      preview = λ body a b c. refl;
      meter = λ numbers buffer. refl;
      vet = λ s list. refl;
      read = λ input. refl;
      ncts = λ input. refl;
      clock = λ v. refl;
      pair = λ v rate coherent. refl;
      avi = λ v. refl;
      audio = λ channels. refl;
    }

pairs : PairsInNumbers
unfolding flat_map euclid divisor_of mode_of tmds clock_of highest_of beyond reference recommended_of nearest_k nearest_in nearest_of exactly coherent_of pair_of total avi_frame avi_of audio_frame audio_of audio_off_frame fields in_range is_allowed walk walked kind_of wiring_outside video_outside shown_outside video_combined shown_combined outside combined judged read_of pair_for ncts_of line_of digits accepted_text refused_text
pairs =
    record {
      coherent = refl;
      others = refl;
      line = refl;
      least_n = refl;
      below_it = refl;
      most_n = refl;
      above_it = refl;
      above_cts = refl;
      tie = refl;
      nearer = refl;
      exact = refl;
    }

-- ---- the preview

module _ (body : List ℕ) (a b c : ℕ) (h : Bytes body) (z : (preview_of body a b c).refusal ≡ 0) where
  abbrev codes : Pixel
  codes = let code : ℕ → ℕ = λ row. output_of (matrix_of body) row a b c in record { refusal = 0; a = code 0; b = code 1; c = code 2 }

  -- none is given: the matrix is allowed, and these are its codes
  taken : (is_allowed body ≡ true) × (preview_of body a b c ≡ codes)
  unfolding preview_of
  taken = go (is_allowed body) refl (above a b c) refl
    where
      go : (s : Bool) → is_allowed body ≡ s → (t : Bool) → above a b c ≡ t → (is_allowed body ≡ true) × (preview_of body a b c ≡ codes)
      go false e t f = let y = rw e at z in absurd (omega arith)
      go true e true f = let y = rw (e, f) at z in absurd (omega arith)
      go true e false f = (e, rw (e, f))

  number : (i : ℕ) → i < 12 → value_of (get_or (matrix_of body).coefficients i 0) ≡ number_at body i
  number = (numbers body h).values taken.0

  rounds : (row : ℕ) → row < 3 → RoundsInNumbers (formula body row a b c) (output_of (matrix_of body) row a b c)
  unfolding code_of
  rounds row l =
      let q : ℤ = shr_z (formula body row a b c) 4096 in
      record {
        whole = q;
        down = down (formula body row a b c);
        held =
            rw (number (4 * row + 0) (omega arith), number (4 * row + 1) (omega arith), number (4 * row + 2) (omega arith), number (4 * row + 3) (omega arith))
            (holds q);
      }

converts : Converts
unfolding fields in_range is_allowed code_of preview_of walk walked kind_of wiring_outside video_outside shown_outside video_combined shown_combined outside combined judged read_of mode_of tmds divisor_of euclid
converts =
    record {
      a = λ body a b c h z. rw (taken body a b c h z).1 (rounds body a b c h z 0 (omega arith));
      b = λ body a b c h z. rw (taken body a b c h z).1 (rounds body a b c h z 1 (omega arith));
      c = λ body a b c h z. rw (taken body a b c h z).1 (rounds body a b c h z 2 (omega arith));
      modes = refl;
      alone = refl;
      above = refl;
      read = refl;
      none = refl;
    }

lengths : LengthsInNumbers
unfolding flat_map euclid divisor_of mode_of tmds clock_of highest_of beyond reference recommended_of nearest_k nearest_in nearest_of exactly coherent_of pair_of fields in_range is_allowed code_of preview_of walk walked kind_of wiring_outside video_outside shown_outside video_combined shown_combined outside combined judged read_of pair_for later_refusal plan_with plan_of lent_refusal view_refusal mute_of matrix_refusal matrix_answer enter_of turn_of write_of refuses vet_refusal vet_of as_bytes extract matrix_in_range allowed_of stands_in some_ends decode_refusal decode_of
lengths =
    record {
      plan_image = refl;
      plan_buffer = refl;
      nine = refl;
      decode_image = refl;
      decode_buffer = refl;
      write = refl;
      vsync = refl;
      vet = refl;
      views = refl;
      view = refl;
      mute = refl;
      matrix_image = refl;
      matrix_coefficients = refl;
      matrix_out = refl;
      preview = refl;
    }

lists : ListsInNumbers
unfolding flat_map euclid divisor_of mode_of tmds clock_of highest_of beyond reference recommended_of nearest_k nearest_in nearest_of exactly coherent_of pair_of total avi_frame audio_frame audio_off_frame fields in_range is_allowed walk walked kind_of wiring_outside video_outside shown_outside video_combined shown_combined outside combined judged read_of pair_for merge class_at decided byte written middle is_written finished column flat already_there wanted later_refusal plan_with buffer_with plan_of plan_buffer
lists = record { on_zeros = (refl, refl); on_ones = (refl, refl) }

landed : Landed
unfolding flat_map euclid divisor_of mode_of tmds clock_of highest_of beyond reference recommended_of nearest_k nearest_in nearest_of exactly coherent_of pair_of total avi_frame audio_frame audio_off_frame fields in_range is_allowed walk walked kind_of wiring_outside video_outside shown_outside video_combined shown_combined outside combined judged read_of pair_for merge class_at decided byte written middle is_written finished column flat already_there wanted later_refusal plan_with buffer_with plan_of plan_buffer
landed = refl

pub in_numbers : InNumbers
in_numbers = record { calls = calls; pairs = pairs; converts = converts; lengths = lengths; lists = lists; landed = landed }
