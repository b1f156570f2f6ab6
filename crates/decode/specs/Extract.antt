-- How the code reads a request off an image: by rows of the table of named fields (`places` of plan), each named by its register and its
-- bits, and by the runs of the AVI data bytes and the coefficients. `ExactlyWhen` and `AtMostOne` (Theorems) tie it to document 01.
use Rattle.std.specs.Prelude.{cond, List, [], ◌∷◌, ℕ, suc, ◌+◌, ◌*◌, eqb, get_or, take, drop}
use Rattle.bits.specs.Merge.{bits_in}
use Rattle.wiring.specs.declared.Wires.{Wires}
use Rattle.wiring.specs.Named.{wiring_named}
use Rattle.matrix.specs.declared.Matrix.{Matrix}
use Rattle.matrix.specs.Matrix.{fields, no_matrix}
use Rattle.frames.specs.Frames.{avi_count}
use Rattle.frames.specs.Named.{video_named}
use Rattle.chip.specs.Machine.{matrix, registers_of}
use Rattle.sound.specs.Coded.{rate_of}
use Rattle.sound.specs.declared.Sound.{Sound}
use Rattle.sound.specs.declared.Sound.TheVariants.{Off, On}
use Rattle.request.specs.declared.Request.{Request}
use Rattle.plan.specs.Places.{depth_numbers}

-- the bits [high:low] of a register
abbrev pub bits_at : ℕ → ℕ → ℕ → List ℕ → ℕ
bits_at address high low image = bits_in high low (get_or image address 0)

-- the place of a code in a list of codes; their count where it is none of them
abbrev pub index_of : ℕ → List ℕ → ℕ
index_of code [] = 0
index_of code (c ∷ codes) = cond (eqb code c) 0 (suc (index_of code codes))

-- the depth of a code, 0 to 2; 3 for a code that is none
abbrev pub depth_of : ℕ → ℕ
depth_of code = index_of code depth_numbers

-- the numbers of the wiring; a sync value lies in two registers
abbrev pub wires_in : List ℕ → Wires
wires_in image =
    record {
      input = bits_at 0x15 3 0 image;
      depth = bits_at 0x16 5 4 image;
      style = bits_at 0x16 3 2 image;
      justification = bits_at 0x48 4 3 image;
      hplacement = bits_at 0x30 7 0 image * 4 + bits_at 0x31 7 6 image;
      hduration = bits_at 0x31 5 0 image * 16 + bits_at 0x32 7 4 image;
      vplacement = bits_at 0x32 3 0 image * 64 + bits_at 0x33 7 2 image;
      vduration = bits_at 0x33 1 0 image * 256 + bits_at 0x34 7 0 image;
    }

-- sound is on where its sample packets are; the channels are one more than CC
abbrev pub sound_in : List ℕ → Sound
sound_in image =
    cond (eqb (bits_at 0x44 5 5 image) 0) Off
    (On (rate_of (bits_at 0x15 7 4 image)) (bits_at 0x73 2 0 image + 1) (bits_at 0x0A 7 7 image))

abbrev pub matrix_in : List ℕ → Matrix
matrix_in image =
    cond (eqb (bits_at 0x18 7 7 image) 0) no_matrix
    (record { on = 1; mode = bits_at 0x18 6 5 image; coefficients = fields (registers_of matrix image) })

-- the data bytes of the AVI InfoFrame: the video is the one that they name, over that link and at that depth
abbrev pub data_in : List ℕ → List ℕ
data_in image = take avi_count (drop 0x55 image)

unfoldable pub extract : List ℕ → Request
extract image =
    record {
      wiring = wiring_named (wires_in image);
      video = video_named (bits_at 0xAF 1 1 image) (depth_of (bits_at 0x4C 3 0 image)) (data_in image);
      sound = sound_in image;
      matrix = matrix_in image;
    }
