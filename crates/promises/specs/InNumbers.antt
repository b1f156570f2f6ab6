-- What the papers say in numbers, in bare numbers, beside a request's own bytes (`EachByte`): the refusals of each call in their order, N and
-- CTS, the preview, a matrix, the lengths of what is lent, two whole lists, and where each byte of a request lands.
use Rattle.std.specs.Prelude.{◌≡◌, Bool, true, false, ◌&&◌, List, [], ◌∷◌, ◌++◌, map, ℕ, ◌+◌, ◌-◌, ◌*◌, ◌^◌, eqb, ℤ, pos, ◌+ℤ◌, ◌*ℤ◌, Float, get_or, take, set, replicate}
use Rattle.lists.specs.Find.{every}
use Rattle.lists.specs.Same.{same_list}
use Rattle.refusals.specs.Rows.{number, order, Condition}
use Rattle.refusals.specs.Tests.{answer}
use Rattle.video.specs.declared.Video.{Video}
use Rattle.clock.specs.Numbered.{Clock}
use Rattle.clock.specs.Tables as tables
use Rattle.clock.specs.Pairs.{reference}
use Rattle.clock.specs.Answers.{the_pair, no_pair}
use Rattle.clock.specs.Found.{coherent_of}
use Rattle.clock.specs.Theorems.{clock_rules, pair_rules}
use Rattle.frames.specs.Theorems.{avi_rules, audio_rules}
use Rattle.matrix.specs.Matrix.{Bytes, number_at}
use Rattle.matrix.specs.Preview.{preview_of, preview_rules, RoundedDown, Clamped}
use Rattle.meter.specs.Meter.{meter_rules}
use Rattle.request.specs.Sections.{walked}
use Rattle.request.specs.Request.{read_rules, ncts_rules}
use Rattle.request.specs.Read.{read_of, ncts_of}
use Rattle.line.specs.Words.{ascii, line_text}
use Rattle.chip.specs.declared.Chip.{Chip}
use Rattle.chip.specs.Write.{lent_as}
use Rattle.views.specs.Entry.{Lent, lent, enter_of, turn_of}
use Rattle.views.specs.View.{view_refusal, mute_of}
use Rattle.views.specs.Converter.{matrix_answer}
use Rattle.views.specs.Refusals.{enter_rules, turn_rules, lent_rules, view_rules, matrix_rules}
use Rattle.writes.specs.List.{finished}
use Rattle.plan.specs.Wanted.{wanted}
use Rattle.plan.specs.Plan.{plan_of, plan_buffer}
use Rattle.plan.specs.Rules.{plan_rules}
use Rattle.decode.specs.Decode.{decode_of}
use Rattle.decode.specs.Theorems.{decode_rules}
use Rattle.vendor.specs.Vendor.{vet_rules}
use Rattle.vendor.specs.Found.{vet_of}
use Rattle.promises.specs.Worked.{example, zeros, vic2}
use Rattle.promises.specs.EachByte.{vics, depth_bytes, edition_bytes}
use Rattle.promises.specs.Cases.{table39}

-- the numbers of a call's conditions, in their order
abbrev pub numbers_in : List Condition → List ℕ
numbers_in [] = []
numbers_in (c ∷ cs) = number c.row ∷ numbers_in cs

pub record Calls : Type 0 where
  -- the list of refusals
  pub all : map number order ≡ 1 ∷ 2 ∷ 3 ∷ 4 ∷ 5 ∷ 6 ∷ 17 ∷ 20 ∷ 7 ∷ 8 ∷ 9 ∷ 10 ∷ 11 ∷ 12 ∷ 13 ∷ 14 ∷ 15 ∷ 16 ∷ 18 ∷ 19 ∷ []
  -- "Planning checks 1 to 10; decoding 7, 10 and 11; a machine write 7 and 13; a view 5, 7 and 13; the preview 5 and 12."
  pub plan : (input image buffer : List ℕ) → numbers_in (plan_rules input image buffer) ≡ 1 ∷ 2 ∷ 3 ∷ 4 ∷ 5 ∷ 6 ∷ 17 ∷ 20 ∷ 7 ∷ 8 ∷ 9 ∷ 10 ∷ []
  pub decode : (image buffer : List ℕ) → numbers_in (decode_rules image buffer) ≡ 7 ∷ 10 ∷ 11 ∷ []
  pub write : (l : Lent) (address value : ℕ) → numbers_in (enter_rules l address value) ≡ 7 ∷ 13 ∷ []
  pub vsync : (l : Lent) → numbers_in (turn_rules l) ≡ 7 ∷ []
  pub view : (image packet : List ℕ) (which : ℕ) → numbers_in (view_rules image packet which) ≡ 5 ∷ 7 ∷ 13 ∷ []
  pub mute : (image packet : List ℕ) → numbers_in (lent_rules image packet) ≡ 7 ∷ 13 ∷ []
  pub matrix : (image buffer out : List ℕ) → numbers_in (matrix_rules image buffer out) ≡ 7 ∷ 10 ∷ []
  pub preview : (body : List ℕ) (a b c : ℕ) → numbers_in (preview_rules body a b c) ≡ 5 ∷ 12 ∷ []
  pub meter : (numbers : List Float) (buffer : List ℕ) → numbers_in (meter_rules numbers buffer) ≡ 5 ∷ 10 ∷ 18 ∷ 19 ∷ []
  pub vet : (s : Chip) (list : List ℕ) → numbers_in (vet_rules s list) ≡ 7 ∷ 8 ∷ 14 ∷ 15 ∷ 16 ∷ []
  -- reading, N and CTS; "A call on single fields checks those .. whose fields it takes"
  pub read : (input : List ℕ) → numbers_in (read_rules (walked input)) ≡ 1 ∷ 2 ∷ 3 ∷ 4 ∷ 5 ∷ 6 ∷ 17 ∷ 20 ∷ []
  pub ncts : (input : List ℕ) → numbers_in (ncts_rules (walked input)) ≡ 1 ∷ 2 ∷ 3 ∷ 4 ∷ 5 ∷ 6 ∷ 17 ∷ 20 ∷ 9 ∷ []
  pub clock : (v : Video) → numbers_in (clock_rules v) ≡ 4 ∷ 5 ∷ 17 ∷ []
  pub pair : (v : Video) (rate coherent : ℕ) → numbers_in (pair_rules v rate coherent) ≡ 4 ∷ 5 ∷ 17 ∷ 9 ∷ []
  pub avi : (v : Video) → numbers_in (avi_rules v) ≡ 4 ∷ 5 ∷ 6 ∷ []
  pub audio : (channels : ℕ) → numbers_in (audio_rules channels) ≡ 5 ∷ []

-- ---- N and CTS

-- RGB over HDMI, with a depth byte and sound
abbrev pub sounding : ℕ → ℕ → ℕ → ℕ → ℕ → ℕ → List ℕ
sounding vic family pixel rate channels coherent =
    0x00 ∷ 0x07 ∷ vic ∷ family ∷ 0x00 ∷ 0x01 ∷ 0x00 ∷ pixel ∷ 0x00 ∷ 0x03 ∷ rate ∷ channels ∷ coherent ∷ 0x00 ∷ []

-- VICs in a family, with a depth byte; N at 32, 44.1, 48, 88.2, 96, 176.4 and 192 kHz, and CTS: 0 for both where it is refused; and how many of
-- these rates eight channels may have
pub record ModePairs : Type 0 where
  pub vics : List ℕ
  pub family : ℕ
  pub pixel : ℕ
  pub n : List ℕ
  pub cts : List ℕ
  pub eight : ℕ

abbrev pub mode_row : List ℕ → ℕ → ℕ → List ℕ → List ℕ → ℕ → ModePairs
mode_row vics family pixel n cts eight = record { vics = vics; family = family; pixel = pixel; n = n; cts = cts; eight = eight }

abbrev pub mode_pairs : List ModePairs
mode_pairs =
    mode_row (1 ∷ []) 0 0x00
    (4096 ∷ 6272 ∷ 6144 ∷ 12544 ∷ 12288 ∷ 25088 ∷ 24576 ∷ [])
    (25200 ∷ 28000 ∷ 25200 ∷ 28000 ∷ 25200 ∷ 28000 ∷ 25200 ∷ []) 3 ∷
    mode_row (1 ∷ []) 1 0x00
    (4576 ∷ 7007 ∷ 6864 ∷ 14014 ∷ 13728 ∷ 28028 ∷ 27456 ∷ [])
    (28125 ∷ 31250 ∷ 28125 ∷ 31250 ∷ 28125 ∷ 31250 ∷ 28125 ∷ []) 3 ∷
    mode_row (2 ∷ 3 ∷ []) 0 0x00
    (4096 ∷ 6272 ∷ 6144 ∷ 12544 ∷ 12288 ∷ 25088 ∷ 24576 ∷ [])
    (27027 ∷ 30030 ∷ 27027 ∷ 30030 ∷ 27027 ∷ 30030 ∷ 27027 ∷ []) 3 ∷
    mode_row (2 ∷ 3 ∷ []) 1 0x00
    (4096 ∷ 6272 ∷ 6144 ∷ 12544 ∷ 12288 ∷ 25088 ∷ 24576 ∷ [])
    (27000 ∷ 30000 ∷ 27000 ∷ 30000 ∷ 27000 ∷ 30000 ∷ 27000 ∷ []) 3 ∷
    mode_row (17 ∷ 18 ∷ []) 0 0x00
    (4096 ∷ 6272 ∷ 6144 ∷ 12544 ∷ 12288 ∷ 25088 ∷ 24576 ∷ [])
    (27000 ∷ 30000 ∷ 27000 ∷ 30000 ∷ 27000 ∷ 30000 ∷ 27000 ∷ []) 3 ∷
    mode_row (4 ∷ 5 ∷ 19 ∷ 20 ∷ 32 ∷ 34 ∷ 62 ∷ []) 0 0x00
    (4096 ∷ 6272 ∷ 6144 ∷ 12544 ∷ 12288 ∷ 25088 ∷ 24576 ∷ [])
    (74250 ∷ 82500 ∷ 74250 ∷ 82500 ∷ 74250 ∷ 82500 ∷ 74250 ∷ []) 7 ∷
    mode_row (4 ∷ 5 ∷ 32 ∷ 34 ∷ 62 ∷ []) 1 0x00
    (0 ∷ 17836 ∷ 11648 ∷ 35672 ∷ 23296 ∷ 71344 ∷ 46592 ∷ [])
    (0 ∷ 234375 ∷ 140625 ∷ 234375 ∷ 140625 ∷ 234375 ∷ 140625 ∷ []) 7 ∷
    mode_row (16 ∷ 31 ∷ []) 0 0x00
    (4096 ∷ 6272 ∷ 6144 ∷ 12544 ∷ 12288 ∷ 25088 ∷ 24576 ∷ [])
    (148500 ∷ 165000 ∷ 148500 ∷ 165000 ∷ 148500 ∷ 165000 ∷ 148500 ∷ []) 7 ∷
    mode_row (16 ∷ []) 1 0x00
    (11648 ∷ 8918 ∷ 5824 ∷ 17836 ∷ 11648 ∷ 35672 ∷ 23296 ∷ [])
    (421875 ∷ 234375 ∷ 140625 ∷ 234375 ∷ 140625 ∷ 234375 ∷ 140625 ∷ []) 7 ∷
    mode_row (60 ∷ []) 0 0x00
    (4096 ∷ 5488 ∷ 6144 ∷ 10976 ∷ 12288 ∷ 21952 ∷ 24576 ∷ [])
    (59400 ∷ 57750 ∷ 59400 ∷ 57750 ∷ 59400 ∷ 57750 ∷ 59400 ∷ []) 7 ∷
    mode_row (60 ∷ []) 1 0x00
    (5824 ∷ 4459 ∷ 5824 ∷ 8918 ∷ 11648 ∷ 17836 ∷ 23296 ∷ [])
    (84375 ∷ 46875 ∷ 56250 ∷ 46875 ∷ 56250 ∷ 46875 ∷ 56250 ∷ []) 7 ∷
    mode_row (2 ∷ 3 ∷ []) 0 0x10
    (4096 ∷ 6272 ∷ 6144 ∷ 12544 ∷ 12288 ∷ 25088 ∷ 24576 ∷ [])
    (54054 ∷ 60060 ∷ 54054 ∷ 60060 ∷ 54054 ∷ 60060 ∷ 54054 ∷ []) 6 ∷
    mode_row (17 ∷ 18 ∷ []) 0 0x10
    (4096 ∷ 6272 ∷ 6144 ∷ 12544 ∷ 12288 ∷ 25088 ∷ 24576 ∷ [])
    (54000 ∷ 60000 ∷ 54000 ∷ 60000 ∷ 54000 ∷ 60000 ∷ 54000 ∷ []) 6 ∷ []

-- each of them, at every rate, with 2 channels and with 8
abbrev pub answers_with : ℕ → List ℕ → List ℕ → ModePairs → Bool
answers_with channels n cts m =
    every (λ vic.
    let pairs = map (λ rate. ncts_of (sounding vic m.family m.pixel rate channels 1)) (0 ∷ 1 ∷ 2 ∷ 3 ∷ 4 ∷ 5 ∷ 6 ∷ []) in
    same_list (map (λ p. p.n) pairs) n && same_list (map (λ p. p.cts) pairs) cts) m.vics

abbrev pub up_to : ℕ → List ℕ → List ℕ
up_to n l = take n l ++ replicate (7 - n) 0

abbrev pub answers_pairs : ModePairs → Bool
answers_pairs m = answers_with 2 m.n m.cts m && answers_with 8 (up_to m.eight m.n) (up_to m.eight m.cts) m

-- which of a row's recommended pairs are exact, at the rates 0 to 6
abbrev pub exact_in : tables.Recommended → List Bool
exact_in r = map (λ rate. eqb (reference rate * get_or r.cts rate 0 * r.den) (r.num * get_or r.n rate 0)) (0 ∷ 1 ∷ 2 ∷ 3 ∷ 4 ∷ 5 ∷ 6 ∷ [])

-- a clock of u/v times 128·48000 Hz
abbrev pub clock_of48 : ℕ → ℕ → Clock
clock_of48 u v = record { refusal = 0; num = 6144000 * u; den = v }

pub record PairsInNumbers : Type 0 where
  -- coherent; and not, where N is the "Other" row's
  pub coherent : every answers_pairs mode_pairs ≡ true
  pub others : map (λ rate. ncts_of (sounding 60 1 0x00 rate 8 0)) (0 ∷ 1 ∷ 2 ∷ 3 ∷ 4 ∷ 5 ∷ 6 ∷ [])
      ≡ map (λ n. the_pair n 0) (4096 ∷ 6272 ∷ 6144 ∷ 12544 ∷ 12288 ∷ 25088 ∷ 24576 ∷ [])
  -- eight channels at 192 kHz, in the program's line
  pub line : line_text (sounding 16 0 0x00 6 8 1) ≡ ascii "accepted vic 16 n 24576 cts 148500 avi 23 audio 57\n"
  -- "N lies between 128·fs/1500 and 128·fs/300, ends included. CTS is at most 1,048,575": on both sides of each, at 48 kHz, where N lies
  -- between 4096 and 20480, for clocks of u/v times 128·fs, whose exact pairs are N = k·v, CTS = k·u
  pub least_n : coherent_of (clock_of48 1048575 4096) 2 ≡ the_pair 4096 1048575
  pub below_it : coherent_of (clock_of48 1048574 4095) 2 ≡ no_pair 9
  pub most_n : coherent_of (clock_of48 1048573 20480) 2 ≡ the_pair 20480 1048573
  pub above_it : coherent_of (clock_of48 1048573 20481) 2 ≡ no_pair 9
  pub above_cts : coherent_of (clock_of48 1048576 4097) 2 ≡ no_pair 9
  -- "nearest to 128·fs/1000, the smaller N on a tie": to 6144, with 8192 as near, and with 4914 less near by 3
  pub tie : coherent_of (clock_of48 1 4096) 2 ≡ the_pair 4096 1
  pub nearer : coherent_of (clock_of48 1 2457) 2 ≡ the_pair 7371 3
  -- the recommended pairs, for the ten clocks in the tables' order: all are exact but that of 74.25/1.001 MHz at 32 kHz
  pub exact : map exact_in tables.recommended
      ≡ set (replicate 10 (replicate 7 true)) 6 (false ∷ replicate 6 true)

-- ---- the matrix and the preview

-- a code as it is answered, by 4096 times the formula: "rounds down to a whole code, then holds it within 0 to 4095"
pub record RoundsInNumbers (z : ℤ) (code : ℕ) : Type 0 where
  pub whole : ℤ
  pub down : RoundedDown z whole
  pub held : Clamped whole code

-- "(InA·A1/4096 + InB·A2/4096 + InC·A3/4096 + A4)·2^mode", times 4096, of row 0, 1 or 2
abbrev pub formula : List ℕ → ℕ → ℕ → ℕ → ℕ → ℤ
formula body row a b c =
    let k : ℕ → ℤ = λ i. number_at body (4 * row + i) in
    (pos a *ℤ k 0 +ℤ pos b *ℤ k 1 +ℤ pos c *ℤ k 2 +ℤ k 3 *ℤ pos 4096) *ℤ pos (2 ^ get_or body 0 0)

pub record Converts : Type 0 where
  -- what is answered for any matrix and input that is not refused
  pub a : (body : List ℕ) (a b c : ℕ) → Bytes body → (preview_of body a b c).refusal ≡ 0 → RoundsInNumbers (formula body 0 a b c) (preview_of body a b c).a
  pub b : (body : List ℕ) (a b c : ℕ) → Bytes body → (preview_of body a b c).refusal ≡ 0 → RoundsInNumbers (formula body 1 a b c) (preview_of body a b c).b
  pub c : (body : List ℕ) (a b c : ℕ) → Bytes body → (preview_of body a b c).refusal ≡ 0 → RoundsInNumbers (formula body 2 a b c) (preview_of body a b c).c
  -- Table 39 in modes 0 to 3, on unequal inputs; each input alone at 4095; and above it
  pub modes : map (λ mode_row. preview_of (set table39 0 mode_row) 1000 2001 3001) (0 ∷ 1 ∷ 2 ∷ 3 ∷ [])
      ≡ record { refusal = 0; a = 192; b = 1153; c = 1865 } ∷ record { refusal = 0; a = 385; b = 2306; c = 3731 }
      ∷ record { refusal = 0; a = 771; b = 4095; c = 4095 } ∷ record { refusal = 5; a = 0; b = 0; c = 0 } ∷ []
  pub alone : preview_of table39 4095 0 0 ∷ preview_of table39 0 4095 0 ∷ preview_of table39 0 0 4095 ∷ []
      ≡ record { refusal = 0; a = 3152; b = 0; c = 0 } ∷ record { refusal = 0; a = 939; b = 4095; c = 379 }
      ∷ record { refusal = 0; a = 0; b = 562; c = 3716 } ∷ []
  pub above : (preview_of table39 4096 0 0).refusal ∷ (preview_of table39 0 4096 0).refusal ∷ (preview_of table39 0 0 4096).refusal ∷ []
      ≡ 12 ∷ 12 ∷ 12 ∷ []
  -- a matrix as it is read, A1 to C4 in 13 bits; "No matrix: converter off, mode 1, A1 = B2 = C3 = 2048, the rest 0"
  pub read : (read_of (0x00 ∷ 0x07 ∷ 0x10 ∷ 0x00 ∷ 0x00 ∷ 0x01 ∷ 0x00 ∷ 0x00 ∷ 0x00 ∷ 0x00 ∷ 0x19 ∷ table39)).request.matrix
      ≡ record { on = 1; mode = 1; coefficients = 3155 ∷ 2048 ∷ 0 ∷ 6614 ∷ 7254 ∷ 2048 ∷ 7816 ∷ 657 ∷ 8191 ∷ 2048 ∷ 3717 ∷ 6334 ∷ [] }
  pub none : (read_of example).request.matrix
      ≡ record { on = 0; mode = 1; coefficients = 2048 ∷ 0 ∷ 0 ∷ 0 ∷ 0 ∷ 2048 ∷ 0 ∷ 0 ∷ 0 ∷ 0 ∷ 2048 ∷ 0 ∷ [] }

-- ---- the lengths of what is lent: one byte short, right, one byte too many

abbrev pub lent_bytes : ℕ → List ℕ
lent_bytes n = replicate n 0

abbrev pub lent_slices : ℕ → ℕ → ℕ → ℕ → Lent
lent_slices image packet coefficients mark = lent (lent_bytes image) (lent_bytes packet) (lent_bytes coefficients) (lent_bytes mark)

-- right; the image, the packet buffer, the coefficient buffer and the mark, each short and long
abbrev pub lents : List Lent
lents =
    lent_slices 256 32 24 1 ∷
    lent_slices 255 32 24 1 ∷ lent_slices 257 32 24 1 ∷
    lent_slices 256 31 24 1 ∷ lent_slices 256 33 24 1 ∷
    lent_slices 256 32 23 1 ∷ lent_slices 256 32 25 1 ∷
    lent_slices 256 32 24 0 ∷ lent_slices 256 32 24 2 ∷ []

-- 32 kHz, coherent, in a mode that has no pair there
abbrev pub pairless : List ℕ
pairless = sounding 4 1 0x00 0 2 1

pub record LengthsInNumbers : Type 0 where
  -- planning: an image of 256, a write buffer of 256 and more; 7 before 8, 9 before 10 and after 8
  pub plan_image : map (λ n. (plan_of example (lent_bytes n) zeros).refusal) (0 ∷ 255 ∷ 256 ∷ 257 ∷ []) ≡ 7 ∷ 7 ∷ 0 ∷ 7 ∷ []
  pub plan_buffer : map (λ n. (plan_of example zeros (lent_bytes n)).refusal) (0 ∷ 255 ∷ 256 ∷ 257 ∷ []) ≡ 10 ∷ 10 ∷ 0 ∷ 0 ∷ []
  pub nine : (plan_of pairless zeros []).refusal ∷ (plan_of pairless zeros zeros).refusal ∷ (plan_of pairless (set zeros 0x4A 0x10) []).refusal ∷ []
      ≡ 9 ∷ 9 ∷ 8 ∷ []
  -- decoding, on zeros, in which no request ends: an image of 256, a request buffer of 51 and more; 10 before 11
  pub decode_image : map (λ n. (decode_of (lent_bytes n) (lent_bytes 51)).refusal) (0 ∷ 255 ∷ 256 ∷ 257 ∷ []) ≡ 7 ∷ 7 ∷ 11 ∷ 7 ∷ []
  pub decode_buffer : map (λ n. (decode_of zeros (lent_bytes n)).refusal) (0 ∷ 50 ∷ 51 ∷ 52 ∷ []) ≡ 10 ∷ 10 ∷ 11 ∷ 11 ∷ []
  -- the machine: an image of 256, a packet buffer of 32, a coefficient buffer of 24, a mark of 1
  pub write : map (λ l. (enter_of l 0x4B 0x40).refusal) lents ≡ 0 ∷ replicate 8 7
  pub vsync : map (λ l. (turn_of l).refusal) lents ≡ 0 ∷ replicate 8 7
  -- a vendor's list, the empty one; the mark is a number there
  pub vet : map (λ l. (vet_of (lent_as l.image l.packet l.coefficients false) []).refusal) (take 7 lents) ≡ 16 ∷ replicate 6 7
  -- views, AVI and audio, and no other; the mute
  pub views : map (view_refusal zeros (lent_bytes 32)) (0 ∷ 1 ∷ 2 ∷ 3 ∷ 255 ∷ []) ≡ 0 ∷ 0 ∷ 5 ∷ 5 ∷ 5 ∷ []
  pub view : map (λ l. view_refusal l.image l.packet 0) (take 5 lents) ≡ 0 ∷ replicate 4 7
  pub mute : map (λ l. (mute_of l.image l.packet).refusal) (take 5 lents) ≡ 0 ∷ replicate 4 7
  -- the matrix in use: 25 bytes and more
  pub matrix_image : map (λ n. (matrix_answer (lent_bytes n) (lent_bytes 24) (lent_bytes 25)).refusal) (255 ∷ 256 ∷ 257 ∷ []) ≡ 7 ∷ 0 ∷ 7 ∷ []
  pub matrix_coefficients : map (λ n. (matrix_answer zeros (lent_bytes n) (lent_bytes 25)).refusal) (23 ∷ 24 ∷ 25 ∷ []) ≡ 7 ∷ 0 ∷ 7 ∷ []
  pub matrix_out : map (λ n. (matrix_answer zeros (lent_bytes 24) (lent_bytes n)).refusal) (0 ∷ 24 ∷ 25 ∷ 26 ∷ []) ≡ 10 ∷ 10 ∷ 0 ∷ 0 ∷ []
  -- the preview's matrix
  pub preview : map (λ n. (preview_of (lent_bytes n) 0 0 0).refusal) (0 ∷ 24 ∷ 25 ∷ 26 ∷ []) ≡ 5 ∷ 5 ∷ 0 ∷ 5 ∷ []

-- ---- two whole lists

-- today's board; VIC 2, family 1, 4:4:4, HDMI, limited, 30 bits, four times, E with quantisation and type 3; 192 kHz, 8 channels, coherent; Table 39 in mode 2
abbrev pub busy : List ℕ
busy =
    0x00 ∷ 0x07 ∷ 0x02 ∷ 0x01 ∷ 0x02 ∷ 0x01 ∷ 0x00 ∷ 0x21 ∷ 0x35 ∷ 0x03 ∷ 0x06 ∷ 0x08 ∷ 0x01 ∷ 0x19 ∷ set table39 0 2

-- all ones, but for the packet holds
abbrev pub ones : List ℕ
ones = set (replicate 256 0xFF) 0x4A 0x8F

-- on zeros, where a byte of 0 is left out, and on these ones, where 0xFF is
abbrev pub list_on_zeros : List ℕ
list_on_zeros =
    0x4B ∷ 0x40 ∷ 0x98 ∷ 0x03 ∷ 0x9A ∷ 0xE0 ∷ 0x9C ∷ 0x30 ∷ 0x9D ∷ 0x61 ∷ 0xA2 ∷ 0xA4 ∷ 0xA3 ∷ 0xA4 ∷ 0xE0 ∷ 0xD0 ∷
    0x1A ∷ 0x28 ∷ 0x18 ∷ 0xCC ∷ 0x19 ∷ 0x53 ∷ 0x1A ∷ 0x28 ∷ 0x1E ∷ 0x19 ∷ 0x1F ∷ 0xD6 ∷ 0x20 ∷ 0x1C ∷ 0x21 ∷ 0x56 ∷
    0x22 ∷ 0x08 ∷ 0x24 ∷ 0x1E ∷ 0x25 ∷ 0x88 ∷ 0x26 ∷ 0x02 ∷ 0x27 ∷ 0x91 ∷ 0x28 ∷ 0x1F ∷ 0x29 ∷ 0xFF ∷ 0x2A ∷ 0x08 ∷
    0x2C ∷ 0x0E ∷ 0x2D ∷ 0x85 ∷ 0x2E ∷ 0x18 ∷ 0x2F ∷ 0xBE ∷ 0x1A ∷ 0x08 ∷ 0x4A ∷ 0xC0 ∷ 0x52 ∷ 0x02 ∷ 0x53 ∷ 0x0D ∷
    0x54 ∷ 0x52 ∷ 0x55 ∷ 0x50 ∷ 0x56 ∷ 0x58 ∷ 0x58 ∷ 0x02 ∷ 0x59 ∷ 0x73 ∷ 0x4A ∷ 0x80 ∷ 0x4A ∷ 0xA0 ∷ 0x70 ∷ 0x01 ∷
    0x71 ∷ 0x0A ∷ 0x72 ∷ 0x57 ∷ 0x73 ∷ 0x07 ∷ 0x76 ∷ 0x13 ∷ 0x4A ∷ 0x80 ∷ 0x02 ∷ 0x60 ∷ 0x07 ∷ 0x02 ∷ 0x08 ∷ 0x0F ∷
    0x09 ∷ 0x58 ∷ 0x0A ∷ 0x80 ∷ 0x0C ∷ 0x3C ∷ 0x15 ∷ 0xE0 ∷ 0x16 ∷ 0x30 ∷ 0x3B ∷ 0xD4 ∷ 0x3C ∷ 0x02 ∷ 0x40 ∷ 0x80 ∷
    0x44 ∷ 0x78 ∷ 0x4C ∷ 0x05 ∷ 0xAF ∷ 0x06 ∷ 0x4B ∷ 0x80 ∷ []

abbrev pub list_on_ones : List ℕ
list_on_ones =
    0x4B ∷ 0x7F ∷ 0x98 ∷ 0x03 ∷ 0x9A ∷ 0xE1 ∷ 0x9C ∷ 0x30 ∷ 0x9D ∷ 0x6D ∷ 0xA2 ∷ 0xA4 ∷ 0xA3 ∷ 0xA4 ∷ 0xE0 ∷ 0xD0 ∷
    0xF9 ∷ 0x00 ∷ 0x1A ∷ 0xE8 ∷ 0x18 ∷ 0xCC ∷ 0x19 ∷ 0x53 ∷ 0x1A ∷ 0xE8 ∷ 0x1B ∷ 0x00 ∷ 0x1C ∷ 0xE0 ∷ 0x1D ∷ 0x00 ∷
    0x1E ∷ 0xF9 ∷ 0x1F ∷ 0xD6 ∷ 0x20 ∷ 0xFC ∷ 0x21 ∷ 0x56 ∷ 0x22 ∷ 0xE8 ∷ 0x23 ∷ 0x00 ∷ 0x24 ∷ 0xFE ∷ 0x25 ∷ 0x88 ∷
    0x26 ∷ 0xE2 ∷ 0x27 ∷ 0x91 ∷ 0x2A ∷ 0xE8 ∷ 0x2B ∷ 0x00 ∷ 0x2C ∷ 0xEE ∷ 0x2D ∷ 0x85 ∷ 0x2E ∷ 0xF8 ∷ 0x2F ∷ 0xBE ∷
    0x1A ∷ 0xC8 ∷ 0x4A ∷ 0xCF ∷ 0x52 ∷ 0xFA ∷ 0x53 ∷ 0xED ∷ 0x54 ∷ 0x52 ∷ 0x55 ∷ 0x50 ∷ 0x56 ∷ 0x58 ∷ 0x57 ∷ 0x00 ∷
    0x58 ∷ 0x02 ∷ 0x59 ∷ 0x73 ∷ 0x5A ∷ 0x00 ∷ 0x5B ∷ 0x00 ∷ 0x5C ∷ 0x00 ∷ 0x5D ∷ 0x00 ∷ 0x5E ∷ 0x00 ∷ 0x5F ∷ 0x00 ∷
    0x60 ∷ 0x00 ∷ 0x61 ∷ 0x00 ∷ 0x4A ∷ 0x8F ∷ 0x4A ∷ 0xAF ∷ 0x70 ∷ 0xF9 ∷ 0x71 ∷ 0xEA ∷ 0x72 ∷ 0x57 ∷ 0x73 ∷ 0x07 ∷
    0x74 ∷ 0x00 ∷ 0x75 ∷ 0x00 ∷ 0x76 ∷ 0x13 ∷ 0x77 ∷ 0x00 ∷ 0x78 ∷ 0x00 ∷ 0x79 ∷ 0x00 ∷ 0x7A ∷ 0x00 ∷ 0x7B ∷ 0x00 ∷
    0x7C ∷ 0x00 ∷ 0x4A ∷ 0x8F ∷ 0x01 ∷ 0xF0 ∷ 0x02 ∷ 0x60 ∷ 0x03 ∷ 0x00 ∷ 0x07 ∷ 0xF2 ∷ 0x08 ∷ 0x0F ∷ 0x09 ∷ 0x58 ∷
    0x0A ∷ 0x83 ∷ 0x0C ∷ 0xFC ∷ 0x15 ∷ 0xE0 ∷ 0x16 ∷ 0x33 ∷ 0x30 ∷ 0x00 ∷ 0x31 ∷ 0x00 ∷ 0x32 ∷ 0x00 ∷ 0x33 ∷ 0x00 ∷
    0x34 ∷ 0x00 ∷ 0x3B ∷ 0xD4 ∷ 0x3C ∷ 0xC2 ∷ 0x44 ∷ 0x79 ∷ 0x48 ∷ 0x67 ∷ 0x4C ∷ 0xF5 ∷ 0xAF ∷ 0x96 ∷ 0x4B ∷ 0xBF ∷ []

pub record ListsInNumbers : Type 0 where
  pub on_zeros : ((plan_of busy zeros zeros).count ≡ 60) × (take 120 (plan_buffer busy zeros zeros) ≡ list_on_zeros)
  pub on_ones : ((plan_of busy ones zeros).count ≡ 88) × (take 176 (plan_buffer busy ones zeros) ≡ list_on_ones)

-- ---- where each byte of a request lands

-- the byte at a place of a request, its values, and for each the byte of a register in the finished image, from zeros
pub record Lands : Type 0 where
  pub request : List ℕ
  pub place : ℕ
  pub register : ℕ
  pub values : List ℕ
  pub left : List ℕ

abbrev pub lands : List ℕ → ℕ → ℕ → List ℕ → List ℕ → Lands
lands request place register values left = record { request = request; place = place; register = register; values = values; left = left }

-- `busy` in family 0, at 24 bits and no repetition, E that asks for nothing, with two channels; the same at 48 kHz; and VIC 2 without sound or matrix
abbrev pub sounded : List ℕ
sounded = set (set (set (set busy 3 0) 7 0x00) 8 0x01) 11 2

abbrev pub slower : List ℕ
slower = set sounded 10 2

abbrev pub silent : List ℕ
silent = vic2 0x00 0x00

-- VIC 16 in 4:2:2 over HDMI, from a board of ID 2 with the syncs 88, 44, 4, 5; and from one of ID 1
abbrev pub embedded : List ℕ
embedded =
    0x0C ∷ 0x02 ∷ 0x01 ∷ 0x02 ∷ 0x02 ∷ 0x00 ∷ 0x58 ∷ 0x00 ∷ 0x2C ∷ 0x00 ∷ 0x04 ∷ 0x00 ∷ 0x05 ∷
    0x07 ∷ 0x10 ∷ 0x00 ∷ 0x01 ∷ 0x01 ∷ 0x00 ∷ 0x00 ∷ 0x00 ∷ 0x00 ∷ 0x00 ∷ []

abbrev pub separate : List ℕ
separate = 0x04 ∷ 0x01 ∷ 0x02 ∷ 0x01 ∷ 0x00 ∷ 0x07 ∷ 0x10 ∷ 0x00 ∷ 0x01 ∷ 0x01 ∷ 0x00 ∷ 0x00 ∷ 0x00 ∷ 0x00 ∷ 0x00 ∷ []

abbrev pub landings : List Lands
landings =
    -- the input ID; its depth, its style, its justification
    lands embedded 1 0x15 (2 ∷ 4 ∷ 8 ∷ []) (0x22 ∷ 0x24 ∷ 0x28 ∷ []) ∷
    lands separate 1 0x15 (1 ∷ 3 ∷ 6 ∷ 7 ∷ []) (0x21 ∷ 0x23 ∷ 0x26 ∷ 0x27 ∷ []) ∷
    lands embedded 2 0x16 (1 ∷ 2 ∷ 3 ∷ []) (0x98 ∷ 0xA8 ∷ 0xB8 ∷ []) ∷
    lands separate 2 0x16 (1 ∷ 2 ∷ 3 ∷ []) (0x94 ∷ 0xA4 ∷ 0xB4 ∷ []) ∷
    lands embedded 3 0x16 (1 ∷ 2 ∷ 3 ∷ []) (0x94 ∷ 0x98 ∷ 0x9C ∷ []) ∷
    lands separate 3 0x16 (1 ∷ 2 ∷ 3 ∷ []) (0xA4 ∷ 0xA8 ∷ 0xAC ∷ []) ∷
    lands embedded 4 0x48 (0 ∷ 1 ∷ 2 ∷ []) (0x00 ∷ 0x08 ∷ 0x10 ∷ []) ∷
    lands separate 4 0x48 (0 ∷ 1 ∷ 2 ∷ []) (0x00 ∷ 0x08 ∷ 0x10 ∷ []) ∷
    -- the sync values, each by its high byte and its low byte
    lands embedded 5 0x30 (0 ∷ 1 ∷ 2 ∷ 3 ∷ []) (0x16 ∷ 0x56 ∷ 0x96 ∷ 0xD6 ∷ []) ∷
    lands embedded 6 0x30 (0 ∷ 1 ∷ 88 ∷ 255 ∷ []) (0x00 ∷ 0x00 ∷ 0x16 ∷ 0x3F ∷ []) ∷
    lands embedded 6 0x31 (0 ∷ 1 ∷ 88 ∷ 255 ∷ []) (0x02 ∷ 0x42 ∷ 0x02 ∷ 0xC2 ∷ []) ∷
    lands embedded 7 0x31 (0 ∷ 1 ∷ 2 ∷ 3 ∷ []) (0x02 ∷ 0x12 ∷ 0x22 ∷ 0x32 ∷ []) ∷
    lands embedded 8 0x31 (0 ∷ 44 ∷ 62 ∷ 255 ∷ []) (0x00 ∷ 0x02 ∷ 0x03 ∷ 0x0F ∷ []) ∷
    lands embedded 8 0x32 (0 ∷ 44 ∷ 62 ∷ 255 ∷ []) (0x00 ∷ 0xC0 ∷ 0xE0 ∷ 0xF0 ∷ []) ∷
    lands embedded 9 0x32 (0 ∷ 1 ∷ 2 ∷ 3 ∷ []) (0xC0 ∷ 0xC4 ∷ 0xC8 ∷ 0xCC ∷ []) ∷
    lands embedded 10 0x32 (0 ∷ 4 ∷ 9 ∷ 255 ∷ []) (0xC0 ∷ 0xC0 ∷ 0xC0 ∷ 0xC3 ∷ []) ∷
    lands embedded 10 0x33 (0 ∷ 4 ∷ 9 ∷ 255 ∷ []) (0x00 ∷ 0x10 ∷ 0x24 ∷ 0xFC ∷ []) ∷
    lands embedded 11 0x33 (0 ∷ 1 ∷ 2 ∷ 3 ∷ []) (0x10 ∷ 0x11 ∷ 0x12 ∷ 0x13 ∷ []) ∷
    lands embedded 12 0x34 (0 ∷ 5 ∷ 255 ∷ []) (0x00 ∷ 0x05 ∷ 0xFF ∷ []) ∷
    -- the VIC: in 0x3C and data byte 4; C and M; the checksum
    lands sounded 2 0x3C (vics 0) (0x01 ∷ 0x02 ∷ 0x03 ∷ 0x04 ∷ 0x05 ∷ 0x10 ∷ 0x11 ∷ 0x12 ∷ 0x13 ∷ 0x14 ∷ 0x1F ∷ 0x20 ∷ 0x22 ∷ 0x3C ∷ 0x3E ∷ []) ∷
    lands sounded 2 0x54 (vics 0) (0xC6 ∷ 0xC5 ∷ 0xB4 ∷ 0x73 ∷ 0x72 ∷ 0x67 ∷ 0xB6 ∷ 0xA5 ∷ 0x64 ∷ 0x63 ∷ 0x58 ∷ 0x57 ∷ 0x55 ∷ 0x3B ∷ 0x39 ∷ []) ∷
    lands sounded 2 0x56 (vics 0) (0x58 ∷ 0x58 ∷ 0x68 ∷ 0xA8 ∷ 0xA8 ∷ 0xA8 ∷ 0x58 ∷ 0x68 ∷ 0xA8 ∷ 0xA8 ∷ 0xA8 ∷ 0xA8 ∷ 0xA8 ∷ 0xA8 ∷ 0xA8 ∷ []) ∷
    lands sounded 2 0x58 (vics 0) (0x01 ∷ 0x02 ∷ 0x03 ∷ 0x04 ∷ 0x05 ∷ 0x10 ∷ 0x11 ∷ 0x12 ∷ 0x13 ∷ 0x14 ∷ 0x1F ∷ 0x20 ∷ 0x22 ∷ 0x3C ∷ 0x3E ∷ []) ∷
    -- the encoding: the output format, above a depth of 3; Y, C and Q
    lands sounded 4 0x16 (0 ∷ 1 ∷ 2 ∷ []) (0x30 ∷ 0xB0 ∷ 0x30 ∷ []) ∷
    lands sounded 4 0x54 (0 ∷ 1 ∷ 2 ∷ []) (0x41 ∷ 0xE5 ∷ 0xC5 ∷ []) ∷
    lands sounded 4 0x55 (0 ∷ 1 ∷ 2 ∷ []) (0x10 ∷ 0x30 ∷ 0x50 ∷ []) ∷
    lands sounded 4 0x56 (0 ∷ 1 ∷ 2 ∷ []) (0x18 ∷ 0x58 ∷ 0x58 ∷ []) ∷
    lands sounded 4 0x57 (0 ∷ 1 ∷ 2 ∷ []) (0x04 ∷ 0x00 ∷ 0x00 ∷ []) ∷
    -- the link: the GC and AVI enables, HDMI/DVI; and, silent and without a matrix, the I2S inputs, CTS select, the rate code, the mode, the
    -- audio packet
    lands silent 5 0x40 (0 ∷ 1 ∷ []) (0x00 ∷ 0x80 ∷ []) ∷
    lands silent 5 0x44 (0 ∷ 1 ∷ []) (0x00 ∷ 0x10 ∷ []) ∷
    lands silent 5 0xAF (0 ∷ 1 ∷ []) (0x04 ∷ 0x06 ∷ []) ∷
    lands silent 5 0x0C (0 ∷ 1 ∷ []) (0x00 ∷ 0x00 ∷ []) ∷
    lands silent 5 0x0A (0 ∷ 1 ∷ []) (0x00 ∷ 0x00 ∷ []) ∷
    lands silent 5 0x15 (0 ∷ 1 ∷ []) (0x20 ∷ 0x20 ∷ []) ∷
    lands silent 5 0x18 (0 ∷ 1 ∷ []) (0x28 ∷ 0x28 ∷ []) ∷
    lands silent 5 0x72 (0 ∷ 1 ∷ []) (0x71 ∷ 0x71 ∷ []) ∷
    lands silent 5 0x73 (0 ∷ 1 ∷ []) (0x00 ∷ 0x00 ∷ []) ∷
    lands silent 5 0x76 (0 ∷ 1 ∷ []) (0x00 ∷ 0x00 ∷ []) ∷
    -- the range: Q
    lands silent 6 0x54 (0 ∷ 1 ∷ []) (0x41 ∷ 0x3D ∷ []) ∷
    lands silent 6 0x57 (0 ∷ 1 ∷ []) (0x04 ∷ 0x08 ∷ []) ∷
    -- the depth byte: 0x3B[4:1], the depth code, PR
    lands silent 7 0x3B depth_bytes (0xC0 ∷ 0xC0 ∷ 0xC0 ∷ 0xCA ∷ 0xCA ∷ 0xCA ∷ 0xD4 ∷ 0xD4 ∷ 0xD4 ∷ []) ∷
    lands silent 7 0x4C depth_bytes (0x00 ∷ 0x05 ∷ 0x06 ∷ 0x00 ∷ 0x05 ∷ 0x06 ∷ 0x00 ∷ 0x05 ∷ 0x06 ∷ []) ∷
    lands silent 7 0x54 depth_bytes (0x41 ∷ 0x41 ∷ 0x41 ∷ 0x40 ∷ 0x40 ∷ 0x40 ∷ 0x3E ∷ 0x3E ∷ 0x3E ∷ []) ∷
    lands silent 7 0x59 depth_bytes (0x00 ∷ 0x00 ∷ 0x00 ∷ 0x01 ∷ 0x01 ∷ 0x01 ∷ 0x03 ∷ 0x03 ∷ 0x03 ∷ []) ∷
    -- the edition byte: YQ and CN
    lands silent 8 0x54 edition_bytes (0x41 ∷ 0x41 ∷ 0x01 ∷ 0x31 ∷ 0xF1 ∷ 0x21 ∷ 0xE1 ∷ 0x11 ∷ 0xD1 ∷ []) ∷
    lands silent 8 0x59 edition_bytes (0x00 ∷ 0x00 ∷ 0x40 ∷ 0x10 ∷ 0x50 ∷ 0x20 ∷ 0x60 ∷ 0x30 ∷ 0x70 ∷ []) ∷
    -- the rate: N, CTS and its code
    lands sounded 10 0x01 (0 ∷ 1 ∷ 2 ∷ 3 ∷ 4 ∷ 5 ∷ 6 ∷ []) (0x00 ∷ 0x00 ∷ 0x00 ∷ 0x00 ∷ 0x00 ∷ 0x00 ∷ 0x00 ∷ []) ∷
    lands sounded 10 0x02 (0 ∷ 1 ∷ 2 ∷ 3 ∷ 4 ∷ 5 ∷ 6 ∷ []) (0x10 ∷ 0x18 ∷ 0x18 ∷ 0x31 ∷ 0x30 ∷ 0x62 ∷ 0x60 ∷ []) ∷
    lands sounded 10 0x03 (0 ∷ 1 ∷ 2 ∷ 3 ∷ 4 ∷ 5 ∷ 6 ∷ []) (0x00 ∷ 0x80 ∷ 0x00 ∷ 0x00 ∷ 0x00 ∷ 0x00 ∷ 0x00 ∷ []) ∷
    lands sounded 10 0x07 (0 ∷ 1 ∷ 2 ∷ 3 ∷ 4 ∷ 5 ∷ 6 ∷ []) (0x00 ∷ 0x00 ∷ 0x00 ∷ 0x00 ∷ 0x00 ∷ 0x00 ∷ 0x00 ∷ []) ∷
    lands sounded 10 0x08 (0 ∷ 1 ∷ 2 ∷ 3 ∷ 4 ∷ 5 ∷ 6 ∷ []) (0x69 ∷ 0x75 ∷ 0x69 ∷ 0x75 ∷ 0x69 ∷ 0x75 ∷ 0x69 ∷ []) ∷
    lands sounded 10 0x09 (0 ∷ 1 ∷ 2 ∷ 3 ∷ 4 ∷ 5 ∷ 6 ∷ []) (0x93 ∷ 0x4E ∷ 0x93 ∷ 0x4E ∷ 0x93 ∷ 0x4E ∷ 0x93 ∷ []) ∷
    lands sounded 10 0x15 (0 ∷ 1 ∷ 2 ∷ 3 ∷ 4 ∷ 5 ∷ 6 ∷ []) (0x30 ∷ 0x00 ∷ 0x20 ∷ 0x80 ∷ 0xA0 ∷ 0xC0 ∷ 0xE0 ∷ []) ∷
    -- the channels: the I2S inputs; the enables, whatever they are; the audio packet
    lands slower 11 0x0C (2 ∷ 8 ∷ []) (0x04 ∷ 0x3C ∷ []) ∷
    lands slower 11 0x44 (2 ∷ 8 ∷ []) (0x78 ∷ 0x78 ∷ []) ∷
    lands slower 11 0x72 (2 ∷ 8 ∷ []) (0x70 ∷ 0x57 ∷ []) ∷
    lands slower 11 0x73 (2 ∷ 8 ∷ []) (0x01 ∷ 0x07 ∷ []) ∷
    lands slower 11 0x76 (2 ∷ 8 ∷ []) (0x00 ∷ 0x13 ∷ []) ∷
    -- coherent: CTS, and 0x0A[7]; the enables either way
    lands sounded 12 0x08 (0 ∷ 1 ∷ []) (0x00 ∷ 0x69 ∷ []) ∷
    lands sounded 12 0x0A (0 ∷ 1 ∷ []) (0x00 ∷ 0x80 ∷ []) ∷
    lands sounded 12 0x44 (0 ∷ 1 ∷ []) (0x78 ∷ 0x78 ∷ []) ∷
    -- the mode
    lands sounded 14 0x18 (0 ∷ 1 ∷ 2 ∷ []) (0x8C ∷ 0xAC ∷ 0xCC ∷ []) ∷ []

-- what is refused leaves no byte, which 256 stands for
abbrev pub left_by : Lands → List ℕ
left_by l =
    map (λ value. let read = read_of (set l.request l.place value) in
    answer read.refusal (λ _. 256) (finished (wanted read.request) zeros l.register)) l.values

abbrev pub Landed : Type 0
Landed = map left_by landings ≡ map (λ l. l.left) landings

pub record InNumbers : Type 0 where
  pub calls : Calls
  pub pairs : PairsInNumbers
  pub converts : Converts
  pub lengths : LengthsInNumbers
  pub lists : ListsInNumbers
  pub landed : Landed
