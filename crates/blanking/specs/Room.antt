-- Document 02, request 10, "its blanking rule", as HDMI 1.4's table counts it: each line carries in its horizontal blanking one island of
-- packets, whether it belongs to the picture or not; sound cannot wait for the vertical blanking. The standard stands in no source: what of
-- this is from memory says docs/DECISIONS.md, how tightly the rows that it prints fix it says `Standard` (Theorems).
use Rattle.std.specs.Prelude.{cond, ℕ, ◌+◌, ◌-◌, ◌*◌, ◌/◌, min, ltb}
use Rattle.clock.specs.Clocks.{times}
use Rattle.blanking.specs.Timings.{Timing, timing_of, lines_of}

-- a line's blanking in periods of the TMDS clock at 24 bits, each pixel sent once, twice or four times
abbrev pub periods : Timing → ℕ → ℕ
periods t repetition = (t.pixels - t.active_pixels) * times repetition

-- periods of it that carry no packet: those for content protection, which the standard counts though nobody builds it here; the shortest
-- control period; and a guard band on either side of the island
abbrev pub overhead : ℕ
overhead = 58 + 12 + 2 + 2

-- a packet has 32 periods, and an island at most 18 packets
abbrev pub packets_in : ℕ → ℕ
packets_in periods = min 18 (periods / 32)

-- a packet carries four samples of two channels, or one of more
abbrev pub samples : ℕ → ℕ
samples channels = cond (ltb 2 channels) 1 4

-- how many samples a second there is room for, by the periods of a line that carry no packet
abbrev pub samples_in : ℕ → ℕ → ℕ → ℕ → ℕ
samples_in apart vic repetition channels = lines_of (timing_of vic) * packets_in (periods (timing_of vic) repetition - apart) * samples channels
