-- Document 02, request 11: two readers of an AVI packet, out of its sixteen bytes: version, length, checksum and data bytes 1 to 13. They
-- have the layouts of CEA-861-D and CEA-861-E, and nothing of how a packet is made.
use Rattle.std.specs.Prelude.{◌≡◌, ℕ, ◌+◌, ◌%◌, List, drop, slice_index}
use Rattle.bits.specs.Merge.{bits_in}
use Rattle.video.specs.declared.Video.{Video}
use Rattle.video.specs.Modes.{mode_of}
use Rattle.video.specs.Video.{ycc_quantisation, content_type, in_edition}
use Rattle.video.specs.Fits.{VideoFits}
use Rattle.frames.specs.Frames.{total, colorimetry, quantisation, repeats, avi_frame}

-- the bits [high:low] of data byte n
abbrev pub in_byte : ℕ → ℕ → ℕ → List ℕ → ℕ
in_byte n high low packet = bits_in high low (slice_index packet (n + 2))

-- "a reader that knows only D": the colour, in Y, C, EC and Q; the aspect, in A, M and R; the VIC; and PR. It passes over the bits that D
-- reserves, byte 1 [7], byte 4 [7] and byte 5 [7:4], and over what is no colour, aspect or VIC: B, S, ITC, SC and the bars.
pub record ByD : Type 0 where
  pub y : ℕ
  pub a : ℕ
  pub c : ℕ
  pub m : ℕ
  pub r : ℕ
  pub ec : ℕ
  pub q : ℕ
  pub vic : ℕ
  pub pr : ℕ

abbrev pub read_by_d : List ℕ → ByD
read_by_d packet =
    record {
      y = in_byte 1 6 5 packet;
      a = in_byte 1 4 4 packet;
      c = in_byte 2 7 6 packet;
      m = in_byte 2 5 4 packet;
      r = in_byte 2 3 0 packet;
      ec = in_byte 3 6 4 packet;
      q = in_byte 3 3 2 packet;
      vic = in_byte 4 6 0 packet;
      pr = in_byte 5 3 0 packet;
    }

-- a reader that knows E: YQ and CN too
pub record ByE : Type 0 where
  pub known : ByD
  pub yq : ℕ
  pub cn : ℕ

abbrev pub read_by_e : List ℕ → ByE
read_by_e packet = record { known = read_by_d packet; yq = in_byte 5 7 6 packet; cn = in_byte 5 5 4 packet }

-- the packet of a video: a frame but for its type, which has no register
abbrev pub avi_packet : Video → List ℕ
avi_packet v = drop 1 (avi_frame v)

-- the same under D, with nothing of E asked for
abbrev pub under_d : Video → Video
under_d = in_edition 0x00

-- of a video that fits
pub record Editions (v : Video) : Type 0 where
  -- "Shown to a reader that knows only D, an E packet yields the same colour, aspect and VIC": what the D packet of the same video yields,
  -- which fits too. Of the packets that the chip sends for two requests, `TwoReaders.shown_to_d` (promises) says it in bytes.
  pub same : read_by_d (avi_packet v) ≡ read_by_d (avi_packet (under_d v))
  pub fits : VideoFits (under_d v)
  -- and that is what was asked; a reader that knows E finds the quantisation and the content type too
  pub asked : read_by_e (avi_packet v) ≡ record {
    known = record {
      y = v.encoding;
      a = 1;
      c = colorimetry (mode_of v.vic) v.encoding;
      m = (mode_of v.vic).aspect;
      r = 8;
      ec = 0;
      q = quantisation v;
      vic = v.vic;
      pr = repeats v;
    };
    yq = ycc_quantisation v;
    cn = content_type v;
  }
  -- the checksum is right in either edition
  pub summed : total (avi_frame v) % 256 ≡ 0

abbrev pub BothEditions : Type 0
BothEditions = (v : Video) → VideoFits v → Editions v
