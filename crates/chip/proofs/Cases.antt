-- The machine in bare numbers: antt computes each state. Assumes nothing.
use mathlib.Core.Path.{refl}
use Rattle.bits.specs.Merge.{merge}
use Rattle.registers.specs.Classes.{class_at}
use Rattle.matrix.specs.Matrix.{fields}
use Rattle.chip.specs.Machine.{in_use, coefficients, gc_in_use}
use Rattle.chip.specs.Write.{put, stored, refuses, write_of, vsync_of}
use Rattle.chip.specs.Cases.{MachineCases}

pub cases : MachineCases
unfolding merge class_at fields in_use coefficients gc_in_use put stored refuses write_of vsync_of
cases =
    record {
      refusals = λ mark. refl;
      written = refl;
      standing = refl;
      kept = λ mark. (refl, refl);
      gc_alone = refl;
      copies = λ mark. refl;
      exchanged = refl;
      avi_in_use = refl;
      audio_in_use = refl;
      gc_in_use = refl;
      under_the_hold = refl;
      at_once = refl;
      rise = refl;
      rise_in_a_wait = refl;
      fall = (refl, refl);
      marked = (refl, refl);
      leaves_down = refl;
      leaves_up = refl;
      vsyncs = λ mark. (refl, refl);
      twelve = (refl, refl, refl, refl);
      old = refl;
      waits = refl;
      new = (refl, refl);
      dropped = (refl, refl, refl, refl);
      enable = λ mark. refl;
      mode = λ mark. refl;
      in_a_wait = (refl, refl, refl);
      zeros = refl;
      ones = refl;
      past_the_end = (refl, refl, refl);
      low_eight = (refl, refl);
    }
