-- Document 01, "Marked cases, proved together as one table", the worked example of "What the station's library does", and the lengths that
-- "The request" says in numbers; with request 01 in: "Count 4 is no longer allowed, cases and example follow"; those of requests 06, 10
-- and 11, and two of request 09. Each has a wiring section of request 02 in front, that of today's board; other wirings stand in `WiringCases`,
-- what each byte of a request is answered in `EachByte`, other numbers in `InNumbers`.
use Rattle.std.specs.Prelude.{◌≡◌, true, false, cond, List, [], ◌∷◌, map, ℕ, ◌*◌, ◌<◌, ◌≤◌, eqb, negsuc, get_or, length, replicate, set}
use Rattle.std.specs.Int.{◌∣◌}
use Rattle.lists.specs.Among.{among}
use Rattle.lists.specs.Find.{every}
use Rattle.video.specs.declared.Video.{Video}
use Rattle.video.specs.Video.{video_in}
use Rattle.video.specs.Video as video
use Rattle.clock.specs.Numbered.{Clock}
use Rattle.clock.specs.Answers.{above_limit, clock_of}
use Rattle.clock.specs.Pairs.{reference}
use Rattle.clock.specs.Answers.{the_pair}
use Rattle.clock.specs.Found.{pair_of}
use Rattle.frames.specs.Audio.{audio_off_frame}
use Rattle.frames.specs.Answers.{avi_of, audio_of}
use Rattle.frames.specs.Editions.{read_by_e, under_d}
use Rattle.matrix.specs.Coefficient.{word, low_thirteen, value_of}
use Rattle.matrix.specs.Preview.{preview_of}
use Rattle.sound.specs.declared.Sound.TheVariants.{On}
use Rattle.blanking.specs.Theorems.{SameMode, NoLess}
use Rattle.chip.specs.Write.{lent_as}
use Rattle.request.specs.Sections.{longest}
use Rattle.request.specs.Lengths.{lengths}
use Rattle.request.specs.Read.{read_of}
use Rattle.writes.specs.List.{finished_image}
use Rattle.plan.specs.Plan.{plan_of}
use Rattle.decode.specs.Decode.{decode_of}
use Rattle.vendor.specs.Found.{vet_of}
use Rattle.decode.specs.Theorems.{Answered}
use Rattle.line.specs.Words.{ascii, line_text}
use Rattle.promises.specs.EachByte.{edition_bytes, bits_under_d}
use Rattle.promises.specs.Metered.{bytes_with}
use Rattle.promises.specs.Rules.{asked}
use Rattle.promises.specs.Worked.{example, zeros, Few, FewDeep, FewEditions}

-- Table 39 as a request has it: mode 1, A 3155, 2048, 0, -1578; B -938, 2048, -376, 657; C -1, 2048, 3717, -1858
abbrev pub table39 : List ℕ
table39 =
    1 ∷ 0x0C ∷ 0x53 ∷ 0x08 ∷ 0x00 ∷ 0x00 ∷ 0x00 ∷ 0xF9 ∷ 0xD6 ∷ 0xFC ∷ 0x56 ∷ 0x08 ∷ 0x00 ∷ 0xFE ∷ 0x88 ∷ 0x02 ∷ 0x91 ∷
    0xFF ∷ 0xFF ∷ 0x08 ∷ 0x00 ∷ 0x0E ∷ 0x85 ∷ 0xF8 ∷ 0xBE ∷ []

-- a VIC in a family, RGB over HDMI, limited, with a depth byte; and with 24 bits and no repetition
abbrev pub deep_rgb : ℕ → ℕ → ℕ → Video
deep_rgb vic family pixel = video_in (vic ∷ family ∷ 0 ∷ 1 ∷ 0 ∷ pixel ∷ 0x00 ∷ [])

abbrev pub rgb_over_hdmi : ℕ → ℕ → Video
rgb_over_hdmi vic family = deep_rgb vic family 0x00

-- a request for VIC 16, family 0, without sound or matrix: the encoding, the link, the depth byte and the edition byte
abbrev pub asked16 : ℕ → ℕ → ℕ → ℕ → List ℕ
asked16 encoding link pixel edition = 0x00 ∷ 0x07 ∷ 0x10 ∷ 0x00 ∷ encoding ∷ link ∷ 0x00 ∷ pixel ∷ edition ∷ 0x00 ∷ 0x00 ∷ []

-- what is answered for each: D, and E with any of its bits; E's bits under D; the others
abbrev pub edition_refusal : ℕ → ℕ
edition_refusal edition = cond (among edition edition_bytes) 0 (cond (among edition bits_under_d) 6 5)

-- the image that it ends in, from zeros
abbrev pub done16 : ℕ → List ℕ
done16 edition = finished_image (asked (asked16 0 1 0x00 edition)) zeros

-- VIC, depth byte and rate, with eight channels: RGB over HDMI
abbrev pub eight : ℕ → ℕ → ℕ → List ℕ
eight vic pixel rate =
    0x00 ∷ 0x07 ∷ vic ∷ 0x00 ∷ 0x00 ∷ 0x01 ∷ 0x00 ∷ pixel ∷ 0x00 ∷ 0x03 ∷ rate ∷ 0x08 ∷ 0x00 ∷ 0x00 ∷ []

-- a clock of so many Hz
abbrev hertz : ℕ → Clock
hertz n = record { refusal = 0; num = n; den = 1 }

pub record MarkedCases : Type 0 where
  -- "the whole output is `accepted vic 16 n 6144 cts 148500 ..`", with the AVI checksum of case 10
  pub line : line_text example ≡ ascii "accepted vic 16 n 6144 cts 148500 avi 23 audio 70\n"
  -- and in full range
  pub line_full : line_text (set example 6 1) ≡ ascii "accepted vic 16 n 6144 cts 148500 avi 1f audio 70\n"
  -- "and for an empty input `refused 1`"
  pub empty : line_text [] ≡ ascii "refused 1\n"
  -- 1. The video section's count alone: refused 1
  pub case1 : (read_of (0x00 ∷ 0x07 ∷ [])).refusal ≡ 1
  -- 2. A count that is not allowed: refused 2; request 01: "Count 4 is no longer allowed"; nor are 5 and 6 now
  pub case2 : (read_of (0x00 ∷ 0x05 ∷ 0x10 ∷ 0x00 ∷ 0x00 ∷ 0x01 ∷ [])).refusal ≡ 2
  pub case2_four : (read_of (0x00 ∷ 0x04 ∷ 0x10 ∷ 0x00 ∷ 0x00 ∷ 0x01 ∷ [])).refusal ≡ 2
  pub case2_six : (read_of (0x00 ∷ 0x06 ∷ 0x10 ∷ 0x00 ∷ 0x00 ∷ 0x01 ∷ 0x00 ∷ 0x00 ∷ 0x00 ∷ 0x00 ∷ [])).refusal ≡ 2
  -- 3. One byte too many: refused 3
  pub case3 : (read_of (0x00 ∷ 0x07 ∷ 0x10 ∷ 0x00 ∷ 0x00 ∷ 0x01 ∷ 0x00 ∷ 0x00 ∷ 0x00 ∷ 0x00 ∷ 0x00 ∷ 0x00 ∷ [])).refusal ≡ 3
  -- 4. VIC 19, family 1: refused 4
  pub case4 : ((clock_of (rgb_over_hdmi 19 1)).refusal ≡ 4)
      × ((read_of (0x00 ∷ 0x07 ∷ 19 ∷ 1 ∷ 0x00 ∷ 0x01 ∷ 0x00 ∷ 0x00 ∷ 0x00 ∷ 0x00 ∷ 0x00 ∷ [])).refusal ≡ 4)
  -- 5. YCbCr 4:2:2 without a matrix: refused 6
  pub case5 : (read_of (0x00 ∷ 0x07 ∷ 0x10 ∷ 0x00 ∷ 0x01 ∷ 0x01 ∷ 0x00 ∷ 0x00 ∷ 0x00 ∷ 0x00 ∷ 0x00 ∷ [])).refusal ≡ 6
  -- 6. VIC 16, family 0, 48 kHz, coherent (so are 7 and 8): 6144, 148500. (Rates 0, 1, 2 are 32, 44.1 and 48 kHz.)
  pub case6 : pair_of (rgb_over_hdmi 16 0) 2 1 ≡ the_pair 6144 148500
  -- 7. VIC 60, family 0, 44.1 kHz: 5488, 57750
  pub case7 : pair_of (rgb_over_hdmi 60 0) 1 1 ≡ the_pair 5488 57750
  -- 8. VIC 60, family 1, 32 kHz: 5824, 84375
  pub case8 : pair_of (rgb_over_hdmi 60 1) 0 1 ≡ the_pair 5824 84375
  -- 9. VIC 4, family 1, 32 kHz, coherent: refused 9, for N would have to be a multiple of 23296
  pub case9 : (pair_of (rgb_over_hdmi 4 1) 0 1).refusal ≡ 9
  pub case9_for : (n cts : ℕ) → reference 0 * cts * (clock_of (rgb_over_hdmi 4 1)).den ≡ (clock_of (rgb_over_hdmi 4 1)).num * n → 23296 ∣ n
  -- "the recommended pair .., if there is one and it is exact", where another is nearer: VIC 1, family 0, 44.1 kHz
  pub recommended : pair_of (rgb_over_hdmi 1 0) 1 1 ≡ the_pair 6272 28000
  -- 10. AVI, VIC 16, RGB: checksum; request 01: "case 10 becomes 0x23 when limited"; and in full range
  pub case10 : get_or (avi_of (rgb_over_hdmi 16 0)).bytes 3 0 ≡ 0x23
  pub case10_full : get_or (avi_of (video_in (0x10 ∷ 0x00 ∷ 0x00 ∷ 0x01 ∷ 0x01 ∷ 0x00 ∷ 0x00 ∷ []))).bytes 3 0 ≡ 0x1F
  -- and YCbCr 4:4:4, whose Q "stays 0"
  pub case10_ycbcr : get_or (avi_of (video_in (0x10 ∷ 0x00 ∷ 0x02 ∷ 0x01 ∷ 0x00 ∷ 0x00 ∷ 0x00 ∷ []))).bytes 3 0 ≡ 0x67
  -- 11. Audio InfoFrame, 8 channels: 0x57; off: 0x71
  pub case11 : (get_or (audio_of 8).bytes 3 0 ≡ 0x57) × (get_or audio_off_frame 3 0 ≡ 0x71)
  -- 12. Table 39's A4 bytes 0x19, 0xD6: -1578; C1 0x1F, 0xFF: -1
  pub case12 : (value_of (low_thirteen (word 0x19 0xD6)) ≡ negsuc 1577) × (value_of (low_thirteen (word 0x1F 0xFF)) ≡ negsuc 0)
  -- 13. Table 39 on 2048, 3760, 2048: 3759, 3760, 3760
  pub case13 : preview_of table39 2048 3760 2048 ≡ record { refusal = 0; a = 3759; b = 3760; c = 3760 }
  -- request 01, in the AVI call: "range above 1 is refusal 5; range 1 with YCbCr is refusal 6" (of a request: `EachByte`)
  pub ranges_avi : (avi_of (video_in (0x10 ∷ 0x00 ∷ 0x00 ∷ 0x01 ∷ 0x02 ∷ 0x00 ∷ 0x00 ∷ []))).refusal ≡ 5
  pub full_with_ycbcr_avi : (avi_of (video_in (0x10 ∷ 0x00 ∷ 0x02 ∷ 0x01 ∷ 0x01 ∷ 0x00 ∷ 0x00 ∷ []))).refusal ≡ 6
  -- full range over DVI and with VIC 1, with Q 2
  pub full_over_dvi : line_text (0x00 ∷ 0x07 ∷ 0x10 ∷ 0x00 ∷ 0x00 ∷ 0x00 ∷ 0x01 ∷ 0x00 ∷ 0x00 ∷ 0x00 ∷ 0x00 ∷ [])
      ≡ ascii "accepted vic 16 n 6144 cts 0 avi 1f audio 71\n"
  pub full_with_vic1 : line_text (0x00 ∷ 0x07 ∷ 0x01 ∷ 0x00 ∷ 0x00 ∷ 0x01 ∷ 0x01 ∷ 0x00 ∷ 0x00 ∷ 0x00 ∷ 0x00 ∷ [])
      ≡ ascii "accepted vic 1 n 6144 cts 0 avi 3e audio 71\n"
  -- request 06: every depth and every repetition, "under the same fraction": the clocks of VIC 1
  pub factors : map (λ pixel. clock_of (deep_rgb 1 0 pixel)) (0x00 ∷ 0x01 ∷ 0x02 ∷ 0x10 ∷ 0x11 ∷ 0x12 ∷ 0x20 ∷ 0x21 ∷ 0x22 ∷ [])
      ≡ map hertz (25200000 ∷ 31500000 ∷ 37800000 ∷ 50400000 ∷ 63000000 ∷ 75600000 ∷ 100800000 ∷ 126000000 ∷ 151200000 ∷ [])
  -- VIC 16, 36 bits, 48 kHz, coherent: 222.75 MHz, within the limit
  pub deep : (clock_of (deep_rgb 16 0 0x02) ≡ hertz 222750000) × (pair_of (deep_rgb 16 0 0x02) 2 1 ≡ the_pair 6144 222750)
  -- the recommended row is that of the clock: VIC 60 at 30 bits takes that of 74.25 MHz, and twice that of 148.5 MHz, where 5488, 144375 is
  -- nearer; VIC 17 twice takes that of 54 MHz; at 44.1 kHz
  pub deep_row : (clock_of (deep_rgb 60 0 0x01) ≡ hertz 74250000) × (pair_of (deep_rgb 60 0 0x01) 1 1 ≡ the_pair 6272 82500)
  pub both_row : pair_of (deep_rgb 60 0 0x11) 1 1 ≡ the_pair 6272 165000
  pub twice_row : (clock_of (deep_rgb 17 0 0x10) ≡ hertz 54000000) × (pair_of (deep_rgb 17 0 0x10) 1 1 ≡ the_pair 6272 60000)
  -- in lowest terms: VIC 2, family 1, is 27 MHz, and 33.75 MHz at 30 bits
  pub lowest : (clock_of (deep_rgb 2 1 0x00) ≡ hertz 27000000) × (clock_of (deep_rgb 2 1 0x01) ≡ hertz 33750000)
  -- "a clock above the limit is 17": VIC 16 twice; of 1 Hz too much, and not of the limit itself
  pub twice : ((clock_of (deep_rgb 16 0 0x10)).refusal ≡ 17) × ((pair_of (deep_rgb 16 0 0x10) 2 1).refusal ≡ 17)
  pub limits : (above_limit (hertz 225000000) ≡ false) × (above_limit (hertz 225000001) ≡ true)
  -- "after 6 and before 7": with no image at all; and where DVI has 30 bits too
  pub before_seven : (plan_of (asked16 0 1 0x10 0x00) [] []).refusal ≡ 17
  pub after_six : (plan_of (asked16 0 0 0x11 0x00) [] []).refusal ≡ 6
  -- VIC 4, family 1, 30 bits, coherent: refused 9 at every rate
  pub nine_deep : every (λ rate. eqb (pair_of (deep_rgb 4 1 0x01) rate 1).refusal 9) (0 ∷ 1 ∷ 2 ∷ 3 ∷ 4 ∷ 5 ∷ 6 ∷ []) ≡ true
  -- "Family is answered as 0", and that may be refused 9 where family 1 is accepted: VIC 2, 30 bits, 32 kHz, coherent
  pub one_family : ((pair_of (deep_rgb 2 0 0x01) 0 1).refusal ≡ 9) × (pair_of (deep_rgb 2 1 0x01) 0 1 ≡ the_pair 4096 33750)
  -- "a value outside its range is 5", in the calls on single fields: the next number of each half, the repetition's in the AVI call too; and
  -- before 17, a rate of 7
  pub depths_alone : ((clock_of (deep_rgb 16 0 0x03)).refusal ≡ 5) × ((clock_of (deep_rgb 16 0 0x30)).refusal ≡ 5) × ((avi_of (deep_rgb 16 0 0x30)).refusal ≡ 5)
  pub rates : (pair_of (deep_rgb 16 0 0x10) 7 1).refusal ≡ 5
  -- VIC 2 over DVI, four times, shows PR 3
  pub four_times : line_text (0x00 ∷ 0x07 ∷ 0x02 ∷ 0x00 ∷ 0x00 ∷ 0x00 ∷ 0x00 ∷ 0x20 ∷ 0x00 ∷ 0x00 ∷ 0x00 ∷ [])
      ≡ ascii "accepted vic 2 n 6144 cts 0 avi 3e audio 71\n"
  -- in both halves, VIC 2, family 1, 36 bits, four times, 48 kHz, coherent: 162 MHz
  pub both_halves : line_text (0x00 ∷ 0x07 ∷ 0x02 ∷ 0x01 ∷ 0x00 ∷ 0x01 ∷ 0x00 ∷ 0x22 ∷ 0x00 ∷ 0x03 ∷ 0x02 ∷ 0x02 ∷ 0x01 ∷ 0x00 ∷ [])
      ≡ ascii "accepted vic 2 n 6144 cts 162000 avi 3e audio 70\n"
  -- the AVI call looks neither at the depth nor at the clock
  pub avi_alone : (avi_of (deep_rgb 16 0 0x13)).refusal ≡ 0
  -- its lists in bare bytes
  pub few_deep : FewDeep
  -- request 11: "edition or quantisation above 1, or bits 7:6, is 5; E's bits under D are 6", and nothing else is refused: where a video is
  -- shown with 0x00, each edition byte is answered so by the AVI call (of a request: `EachByte`). Type 1 under D, 0x10, is 6; edition 2, 0x02,
  -- is 5
  pub editions_avi : (v : Video) → (avi_of (under_d v)).refusal ≡ 0
      → (edition : ℕ) → edition < 256 → (avi_of (video.in_edition edition v)).refusal ≡ edition_refusal edition
  -- the clock looks at the mode, the family, the depth and the repetition, and at nothing else
  pub clock_alone : (v : Video) → clock_of v ≡ clock_of (video_in (v.vic ∷ v.family ∷ 0x00 ∷ 0x00 ∷ 0x00 ∷ v.pixel ∷ 0x00 ∷ []))
  -- E, RGB, type 1; E that asks for nothing has D's packet; and with quantisation and type 3
  pub type_one : line_text (asked16 0 1 0x00 0x11) ≡ ascii "accepted vic 16 n 6144 cts 0 avi 13 audio 71\n"
  pub nothing : line_text (asked16 0 1 0x00 0x01) ≡ ascii "accepted vic 16 n 6144 cts 0 avi 23 audio 71\n"
  pub both_asked : line_text (asked16 0 1 0x00 0x35) ≡ ascii "accepted vic 16 n 6144 cts 0 avi b3 audio 71\n"
  -- its lists in bare bytes
  pub few_editions : FewEditions
  -- the two readers, in a packet with the bits that E reserves 1: Y 2, A 1, C 1, M 2, R 9, EC 5, Q 2, VIC 80, PR 9; YQ 2, CN 1; and what is
  -- shown to the first, a video under D
  pub readers : read_by_e (0x02 ∷ 0x0D ∷ 0x00 ∷ 0xD6 ∷ 0x69 ∷ 0xD9 ∷ 0xD0 ∷ 0x99 ∷ [])
      ≡ record { known = record { y = 2; a = 1; c = 1; m = 2; r = 9; ec = 5; q = 2; vic = 80; pr = 9 }; yq = 2; cn = 1 }
  pub plain : under_d (video_in (0x02 ∷ 0x01 ∷ 0x00 ∷ 0x01 ∷ 0x01 ∷ 0x22 ∷ 0x35 ∷ []))
      ≡ video_in (0x02 ∷ 0x01 ∷ 0x00 ∷ 0x01 ∷ 0x01 ∷ 0x22 ∷ 0x00 ∷ [])
  -- the finished image of an E that asks for nothing reads back as D, and that of E with type 1 as it is
  pub reads_as_d : (room : List ℕ) → 51 ≤ length room → Answered (asked16 0 1 0x00 0x00) (done16 0x01) room
  pub reads_as_e : (room : List ℕ) → 51 ≤ length room → Answered (asked16 0 1 0x00 0x11) (done16 0x11) room
  -- request 07: a meter's bytes stand behind the example's sound, and their count, 25, in front of them
  pub with_meter : bytes_with table39 (read_of (0x00 ∷ 0x07 ∷ 0x10 ∷ 0x00 ∷ 0x00 ∷ 0x01 ∷ 0x00 ∷ 0x00 ∷ 0x00 ∷ 0x03 ∷ 0x02 ∷ 0x02 ∷ 0x01 ∷ 0x00 ∷ [])).request
      ≡ 0x00 ∷ 0x07 ∷ 0x10 ∷ 0x00 ∷ 0x00 ∷ 0x01 ∷ 0x00 ∷ 0x00 ∷ 0x00 ∷ 0x03 ∷ 0x02 ∷ 0x02 ∷ 0x01 ∷ 0x19 ∷ table39
  -- request 10, of eight channels: in 480p 48 kHz is accepted and 88.2 kHz is not, and so in VGA and 576p; 192 kHz in 1080i; in 480p with each
  -- pixel twice 176.4 kHz and not 192 kHz
  pub sound : map (λ input. (plan_of input zeros zeros).refusal)
      (eight 2 0x00 2 ∷ eight 2 0x00 3 ∷ eight 1 0x00 2 ∷ eight 1 0x00 3 ∷ eight 17 0x00 2 ∷ eight 17 0x00 3 ∷ eight 5 0x00 6 ∷ eight 20 0x00 6 ∷
      eight 2 0x10 5 ∷ eight 2 0x10 6 ∷ []) ≡ 0 ∷ 20 ∷ 0 ∷ 20 ∷ 0 ∷ 20 ∷ 0 ∷ 0 ∷ 0 ∷ 20 ∷ []
  -- "so it wins over 8", and over 7 and 10; beside it stands a count of 0
  pub sound_first : map (λ image. plan_of (eight 2 0x00 6) image []) ([] ∷ set zeros 0x4A 0x10 ∷ zeros ∷ [])
      ≡ record { refusal = 20; count = 0 } ∷ record { refusal = 20; count = 0 } ∷ record { refusal = 20; count = 0 } ∷ []
  pub sound_line : line_text (eight 2 0x00 6) ≡ ascii "refused 20\n"
  -- "more channels or a higher rate in the same mode", of any two rates, whatever the family, the depth, the encoding and the edition are
  pub sound_more : (rate higher : ℕ) → rate ≤ higher → NoLess (On rate 2 0) (On higher 8 1) × NoLess (On rate 8 1) (On higher 8 0)
  pub sound_mode : SameMode (video_in (0x02 ∷ 0x00 ∷ 0x00 ∷ 0x01 ∷ 0x00 ∷ 0x11 ∷ 0x00 ∷ [])) (video_in (0x02 ∷ 0x01 ∷ 0x02 ∷ 0x01 ∷ 0x00 ∷ 0x12 ∷ 0x35 ∷ []))
  -- an image that was finished with such a sound decodes to nothing, and an empty list on it is refused 16
  pub sound_decoded : map (λ rate. (decode_of (finished_image (asked (eight 2 0x00 rate)) zeros) zeros).refusal) (2 ∷ 3 ∷ []) ≡ 0 ∷ 11 ∷ []
  pub sound_vetted : map (λ rate. (vet_of (lent_as (finished_image (asked (eight 2 0x00 rate)) zeros) (replicate 32 0) (replicate 24 0) false) []).refusal)
      (2 ∷ 3 ∷ []) ≡ 0 ∷ 16 ∷ []
  -- request 09
  pub few : Few
  -- Lengths follow from the counts: document 01 had 7, 10, 32, 35, and each has three bytes more in the video section, and a wiring section
  pub lengths : lengths ≡ 11 ∷ 15 ∷ 23 ∷ 14 ∷ 18 ∷ 26 ∷ 36 ∷ 40 ∷ 48 ∷ 39 ∷ 43 ∷ 51 ∷ []
  -- "the longest request"
  pub longest : longest ≡ 51
