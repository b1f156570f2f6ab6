-- The calls over slices in bare numbers: antt computes each answer. Assumes nothing.
use mathlib.Core.Path.{refl}
use Rattle.bits.specs.Merge.{merge}
use Rattle.registers.specs.Classes.{class_at}
use Rattle.matrix.specs.Matrix.{fields}
use Rattle.chip.specs.Machine.{in_use, coefficients, gc_in_use}
use Rattle.chip.specs.Write.{put, stored, refuses, write_of, vsync_of}
use Rattle.views.specs.Entry.{enter_of, turn_of}
use Rattle.views.specs.View.{lent_refusal, view_refusal, sent_of, sent_part, mute_of}
use Rattle.views.specs.Converter.{matrix_bytes, matrix_refusal, matrix_answer, matrix_out}
use Rattle.views.specs.Cases.{ViewCases}

pub cases : ViewCases
unfolding merge class_at fields in_use coefficients gc_in_use put stored refuses write_of vsync_of enter_of turn_of lent_refusal view_refusal sent_of sent_part mute_of matrix_bytes matrix_refusal matrix_answer matrix_out
cases = record {
  avi = refl;
  audio = refl;
  avi_bytes = refl;
  audio_bytes = refl;
  starts = refl;
  asked = refl;
  image_lengths = refl;
  packet_lengths = refl;
  holds = refl;
  order = (refl, refl);
  empty = refl;
  zeros = refl;
  mute = refl;
  mute_held = refl;
  mute_refused = refl;
  mute_lengths = (refl, refl);
  matrix_down = refl;
  matrix_up = refl;
  matrix_count = refl;
  matrix_lengths = (refl, refl);
  fall = refl;
  rise = refl;
  gc_alone = refl;
  refused = refl;
  vsyncs = refl;
  write_lengths = refl;
  vsync_lengths = refl;
}
