-- The video that the data bytes of an AVI InfoFrame name, as decoding finds it. `NamedBack` (Theorems) ties it to "InfoFrames".
use Rattle.std.specs.Prelude.{ℕ, ◌+◌, ◌*◌, ◌/◌, ◌%◌, List, slice_index}
use Rattle.video.specs.declared.Video.{Video}
use Rattle.video.specs.Video.{answered_edition}

-- request 11: the edition byte, by data byte 5: E's, with those bits, as it is answered ("Decoding answers D when the bits are 0")
abbrev pub edition_named : ℕ → ℕ
edition_named fifth = answered_edition (1 + fifth / 64 % 4 * 4 + fifth / 16 % 4 * 16)

-- what the data bytes of an AVI frame name, over a link and at a depth: Y of byte 1, the high bit of Q in byte 3, byte 4, PR in byte 5 and
-- the bits above it. "Family is answered as 0". `NamedBack` ties it to them.
abbrev pub video_named : ℕ → ℕ → List ℕ → Video
video_named link depth bytes =
    record {
      vic = slice_index bytes 3;
      family = 0;
      encoding = slice_index bytes 0 / 32 % 4;
      link = link;
      range = slice_index bytes 2 / 8 % 2;
      pixel = (slice_index bytes 4 % 16 + 1) / 2 * 16 + depth % 16;
      edition = edition_named (slice_index bytes 4);
    }

-- the bytes of a frame with so many data bytes
abbrev pub framed : ℕ → ℕ
framed count = 3 + 1 + count
