-- `edid::edid_cases`: computed. Assumes nothing.
use mathlib.Core.Path.{refl}
use Rattle.ratio.specs.Terms.{euclid, divisor_of}
use Rattle.wiring.specs.Kinds.{kind_of}
use Rattle.wiring.specs.Tests.{wiring_outside}
use Rattle.video.specs.Modes.{mode_of}
use Rattle.video.specs.Tests.{video_outside, shown_outside, video_combined, shown_combined}
use Rattle.clock.specs.Clocks.{tmds}
use Rattle.clock.specs.Answers.{clock_of}
use Rattle.clock.specs.Pairs.{reference, recommended_of}
use Rattle.clock.specs.Found.{nearest_k, nearest_in, nearest_of, exactly, coherent_of, pair_of}
use Rattle.blanking.specs.Found.{highest_of, beyond}
use Rattle.frames.specs.Frames.{total}
use Rattle.matrix.specs.Matrix.{fields}
use Rattle.matrix.specs.Tests.{in_range, is_allowed}
use Rattle.request.specs.Sections.{walk, walked}
use Rattle.request.specs.Read.{outside, combined, judged, read_of, pair_for, ncts_of}
use Rattle.edid.specs.Screen.{cut_up}
use Rattle.edid.specs.Wish.{in_place}
use Rattle.edid.specs.Found.{edid_refusal, monitor_of, is_fitting, choose_of}
use Rattle.edid.specs.Cases.{EdidCases}
use Rattle.edid.proofs.edid_cases.Goals as goal

cases : EdidCases
unfolding euclid divisor_of mode_of kind_of wiring_outside video_outside shown_outside video_combined shown_combined tmds clock_of highest_of beyond reference recommended_of nearest_k nearest_in nearest_of exactly coherent_of pair_of total fields in_range is_allowed walk walked outside combined judged read_of pair_for ncts_of cut_up in_place edid_refusal monitor_of is_fitting choose_of
cases = record {
  plainly = refl;
  fits = refl;
  edges = refl;
  alone = (refl, refl);
  lengths = refl;
  headers = refl;
  sums = refl;
  uncounted = refl;
  tags = refl;
  offsets = refl;
  old_offsets = refl;
  too_late = refl;
  spoiled = refl;
  revisions = refl;
  old_blocks = refl;
  no_offset = refl;
  order = refl;
  no_wish = refl;
  odd_wish = refl;
  sixteen = refl;
  seventeen = refl;
  wishes_first = refl;
  first = refl;
  families = refl;
  mended = refl;
  own_vic = refl;
  never = refl;
  too_much = refl;
  eight_wanted = refl;
  other_rate = refl;
  silence = (refl, refl, refl);
  together = refl;
  others = refl;
  places = refl;
}

pub returns : goal.returns
returns c = cases
