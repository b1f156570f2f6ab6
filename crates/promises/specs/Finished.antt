-- Demand 2, "the finished image", field by field: the number of the table `places` (plan) stands in each named field, and what follows for N,
-- CTS and the sums. `ordered` asks which registers are written, and `NeverThree` is about the writes.
use Rattle.std.specs.Prelude.{◌≡◌, ◌≢◌, true, cond, List, [], ◌∷◌, ℕ, ◌+◌, ◌-◌, ◌*◌, ◌%◌, ◌^◌, ◌<◌, eqb, length, get_or, take, drop}
use Rattle.bits.specs.Merge.{under, bits_in}
use Rattle.registers.specs.Classes.{mandated, named, bits}
use Rattle.wiring.specs.declared.Wiring.{Wiring}
use Rattle.wiring.specs.declared.Wiring.TheVariants.{Board, Four, Twelve}
use Rattle.video.specs.declared.Video.{Video}
use Rattle.clock.specs.Numbered.{Pair}
use Rattle.clock.specs.Answers.{clock_of}
use Rattle.clock.specs.Tables.{other_row}
use Rattle.clock.specs.Pairs.{Coherent}
use Rattle.frames.specs.Frames.{total}
use Rattle.chip.specs.Machine.{Write, ◌gets◌}
use Rattle.writes.specs.Rows.{is_written}
use Rattle.sound.specs.declared.Sound.{Sound}
use Rattle.sound.specs.declared.Sound.TheVariants.{Off, On}
use Rattle.request.specs.declared.Request.{Request}
use Rattle.plan.specs.Places.{Place, places, Shows, Each}

-- a number of 20 bits in three registers: 0x01[3:0]·65536 + 0x02·256 + 0x03
abbrev pub twenty_at : ℕ → List ℕ → ℕ
twenty_at a image = bits_in 3 0 (get_or image a 0) * 65536 + bits_in 7 0 (get_or image (a + 1) 0) * 256 + bits_in 7 0 (get_or image (a + 2) 0)

-- the sum of an InfoFrame's bytes: its type, which has no register, its version in [2:0], its length in [4:0], and count registers more
abbrev pub sum_at : ℕ → ℕ → ℕ → List ℕ → ℕ
sum_at type a count image =
    type + bits_in 2 0 (get_or image a 0) + bits_in 4 0 (get_or image (a + 1) 0) + total (take count (drop (a + 2) image))

-- the numbers of a wiring section where they stand, whichever they are; of today's board, and of a section without sync values, what stands for them
pub record FourShown (image : List ℕ) (i d s j : ℕ) : Type 0 where
  pub input : bits_in 3 0 (get_or image 0x15 0) ≡ i
  pub depth : bits_in 5 4 (get_or image 0x16 0) ≡ d
  pub style : bits_in 3 2 (get_or image 0x16 0) ≡ s
  pub justification : bits_in 4 3 (get_or image 0x48 0) ≡ j

pub record SyncsShown (image : List ℕ) (a b c d : ℕ) : Type 0 where
  pub hplacement : bits_in 7 0 (get_or image 0x30 0) * 4 + bits_in 7 6 (get_or image 0x31 0) ≡ a
  pub hduration : bits_in 5 0 (get_or image 0x31 0) * 16 + bits_in 7 4 (get_or image 0x32 0) ≡ b
  pub vplacement : bits_in 3 0 (get_or image 0x32 0) * 64 + bits_in 7 2 (get_or image 0x33 0) ≡ c
  pub vduration : bits_in 1 0 (get_or image 0x33 0) * 256 + bits_in 7 0 (get_or image 0x34 0) ≡ d

abbrev pub WiringShown : List ℕ → Wiring → Type 0
WiringShown image Board = FourShown image 0 3 0 0 × SyncsShown image 0 0 0 0
WiringShown image (Four input depth style justification) = FourShown image input depth style justification × SyncsShown image 0 0 0 0
WiringShown image (Twelve input depth style justification a b c d) =
    FourShown image input depth style justification × SyncsShown image a b c d

-- the finished image of a request whose N and CTS are those of p
pub record FinishedFields (r : Request) (p : Pair) (image : List ℕ) : Type 0 where
  pub fields : Each (Shows image) (places r p)
  pub n : twenty_at 0x01 image ≡ p.n
  pub cts : twenty_at 0x07 image ≡ p.cts
  pub wiring : WiringShown image r.wiring
  pub mode : bits_in 6 5 (get_or image 0x18 0) < 3
  -- "The checksum byte makes the sum of all bytes zero modulo 256": AVI, the checksum and 13 data bytes; audio, the checksum and 10
  pub avi_sum : sum_at 0x82 0x52 14 image % 256 ≡ 0
  pub audio_sum : sum_at 0x84 0x70 11 image % 256 ≡ 0
  -- the mandated bits of each register that is written are those of the class table
  pub ordered : (a : ℕ) → a < 256 → is_written a ≡ true → under (mandated a) (get_or image a 0) ≡ under (mandated a) (bits a)

-- "Mode 3 is never written"
abbrev pub NeverThree : List Write → Type 0
NeverThree list = (k : ℕ) → k < length list → (get_or list k (0 gets 0)).address ≡ 0x18 → bits_in 6 5 (get_or list k (0 gets 0)).value < 3

-- the mask of the places in a register
abbrev pub mask_at : ℕ → List Place → ℕ
mask_at a [] = 0
mask_at a (f ∷ fs) = cond (eqb a f.address) (2 ^ (f.high + 1) - 2 ^ f.low) 0 + mask_at a fs

-- no named field is left out, and none is there twice: the places of each register are together its named bits
abbrev pub AllNamed : Type 0
AllNamed = (r : Request) (p : Pair) (a : ℕ) → a < 256 → mask_at a (places r p) ≡ named a

-- "N and CTS", for a request that is read, as they are answered: "Audio off: N 6144, CTS 0"; "For coherent audio: the recommended pair ..";
-- "For other audio: N from the "Other" row, CTS 0"
abbrev pub Paired : Video → Sound → Pair → Type 0
Paired video Off p = (p.refusal ≡ 0) × (p.n ≡ 6144) × (p.cts ≡ 0)
Paired video (On rate channels coherent) p =
    (coherent ≡ 1 → Coherent (clock_of video) rate p) × (coherent ≢ 1 → (p.refusal ≡ 0) × (p.n ≡ get_or other_row rate 0) × (p.cts ≡ 0))
