-- Document 01, "What the station's library does": the numbers of the line that the small program prints of an input. `Lines` ties the
-- refusals to document 01's rows, `MarkedCases` (promises) the numbers to its example.
use Rattle.std.specs.Prelude.{◌≡◌, List, ℕ, ◌<◌, get_or, take}
use Rattle.refusals.specs.Rows.{Given}
use Rattle.refusals.specs.Tests.{answer}
use Rattle.clock.specs.Numbered.{Pair}
use Rattle.frames.specs.Audio.{audio_off_frame}
use Rattle.frames.specs.Answers.{avi_of, audio_of}
use Rattle.matrix.specs.Matrix.{Bytes}
use Rattle.sound.specs.declared.Sound.{Sound}
use Rattle.sound.specs.declared.Sound.TheVariants.{Off, On}
use Rattle.request.specs.declared.Request.{Request}
use Rattle.request.specs.Sections.{longest, walked}
use Rattle.request.specs.Request.{ncts_rules}
use Rattle.request.specs.Read.{read_of, ncts_of}
use Rattle.line.specs.Numbered.{Line}

-- the checksums that the small program prints: byte 3 of each frame
abbrev pub audio_checksum : Sound → ℕ
audio_checksum Off = get_or audio_off_frame 3 0
audio_checksum (On rate channels coherent) = get_or (audio_of channels).bytes 3 0

-- "accepted vic .. n .. cts .. avi .. audio ..", or "refused" with its number: refusals 1 to 6, 17, 20 and 9
abbrev pub accepted_line : Request → Pair → Line
accepted_line r p =
    record {
      refusal = 0;
      vic = r.video.vic;
      n = p.n;
      cts = p.cts;
      avi = get_or (avi_of r.video).bytes 3 0;
      audio = audio_checksum r.sound;
    }

-- a refusal has its number, and zeros beside it
abbrev pub refused_line : ℕ → Line
refused_line number = record { refusal = number; vic = 0; n = 0; cts = 0; avi = 0; audio = 0 }

unfoldable pub line_of : List ℕ → Line
line_of input = answer (ncts_of input).refusal refused_line (accepted_line (read_of input).request (ncts_of input))

-- "It gives refusals 1 to 6 and 9", and 17 after 6; and one byte more than the longest request decides
pub record Lines (input : List ℕ) : Type 0 where
  pub given : Bytes input → Given (ncts_rules (walked input)) (line_of input).refusal
  pub cut : (n : ℕ) → longest < n → line_of (take n input) ≡ line_of input
