-- `pipe::pipe_cases`: computed. Assumes nothing.
use mathlib.Core.Path.{refl}
use Rattle.ratio.specs.Terms.{euclid, divisor_of}
use Rattle.wiring.specs.Kinds.{kind_of}
use Rattle.wiring.specs.Tests.{wiring_outside}
use Rattle.video.specs.Modes.{mode_of}
use Rattle.video.specs.Tests.{video_outside, shown_outside, video_combined, shown_combined}
use Rattle.clock.specs.Clocks.{tmds}
use Rattle.clock.specs.Answers.{clock_of}
use Rattle.clock.specs.Pairs.{reference, recommended_of}
use Rattle.clock.specs.Found.{nearest_k, nearest_in, nearest_of, exactly, coherent_of, pair_of}
use Rattle.blanking.specs.Found.{highest_of, beyond}
use Rattle.matrix.specs.Matrix.{fields}
use Rattle.matrix.specs.Tests.{in_range, is_allowed}
use Rattle.request.specs.Sections.{walk, walked}
use Rattle.request.specs.Read.{outside, combined, judged, read_of, pair_for, ncts_of}
use Rattle.pipe.specs.Found.{take_of, take_pipe, end_pipe_of, end_pipe}
use Rattle.pipe.specs.Cases.{PipeCases}
use Rattle.pipe.proofs.pipe_cases.Goals as goal

cases : PipeCases
unfolding euclid divisor_of mode_of kind_of wiring_outside video_outside shown_outside video_combined shown_combined tmds clock_of highest_of beyond reference recommended_of nearest_k nearest_in nearest_of exactly coherent_of pair_of fields in_range is_allowed walk walked outside combined judged read_of pair_for ncts_of take_of take_pipe end_pipe_of end_pipe
cases = record {
  length = refl;
  zeros = refl;
  whole = refl;
  parts = refl;
  two = refl;
  two_later = refl;
  three = refl;
  three_longer = refl;
  nothing = refl;
  mended = (refl, refl);
  others = refl;
  inside = refl;
  at_end = refl;
  short = refl;
  long = refl;
  empty = refl;
  above = refl;
  above_answered = refl;
  any_number = refl;
  next_to_accepted = refl;
  any_count = refl;
  behind = refl;
  forged = refl;
}

pub returns : goal.returns
returns c = cases
