-- What is proved of a screen's EDID and of wishes: document 02, request 12.
use Rattle.std.specs.Prelude.{◌≡◌, ◌≢◌, ◌↔◌, Bool, true, cond, ◌&&◌, List, [], ◌∷◌, ◌++◌, ℕ, suc, ◌+◌, ◌-◌, ◌*◌, ◌<◌, ◌≤◌, eqb, ltb, length, set}
use Rattle.lists.specs.Find.{every}
use Rattle.bits.specs.Merge.{bit, bits_in}
use Rattle.sound.specs.declared.Sound.{Sound}
use Rattle.sound.specs.declared.Sound.TheVariants.{Off, On}
use Rattle.video.specs.declared.Video.{Video}
use Rattle.matrix.specs.Matrix.{Bytes}
use Rattle.request.specs.Sections.{walked, whole}
use Rattle.request.specs.Request.{request_of}
use Rattle.request.specs.Bytes.{on_video}
use Rattle.request.specs.Read.{ncts_of}
use Rattle.edid.specs.Order.{GivenFirst}
use Rattle.edid.specs.declared.Ask.TheVariants.{Vic, Pcm}
use Rattle.edid.specs.Numbered.{Monitor}
use Rattle.edid.specs.Screen.{edid_rules, Block, past_end, blocks, data_blocks, screen_tells}
use Rattle.edid.specs.Wish.{Wish, wishes_in, wish_at, in_place, WishFits, choose_rules}
use Rattle.edid.specs.Found.{no_monitor, monitor_of, no_choice, choose_of}

-- blocks as they stand in a collection, one behind the other: a tag of three bits and a length of five, and then so many bytes
abbrev pub laid_blocks : List Block → List ℕ
laid_blocks [] = []
laid_blocks (b ∷ bs) = (32 * b.tag + length b.body) ∷ (b.body ++ laid_blocks bs)

abbrev pub is_block : Block → Bool
is_block b = ltb b.tag 8 && ltb (length b.body) 32

-- "A data block that runs past its end": some blocks, and then one that says more bytes than are left
pub record RunsPast (bytes : List ℕ) : Type 0 where
  pub front : List Block
  pub each : every is_block front ≡ true
  pub head : ℕ
  pub left : List ℕ
  pub made : bytes ≡ laid_blocks front ++ (head ∷ left)
  pub past : length left < bits_in 4 0 head

-- a collection cut up by the lengths, both ways: it is these blocks exactly where they make its bytes, and else one runs past its end
pub record DataBlocks (bytes : List ℕ) : Type 0 where
  pub whole : (bs : List Block) → (data_blocks bytes ≡ blocks bs) ↔ ((every is_block bs ≡ true) × (bytes ≡ laid_blocks bs))
  pub spoiled : (data_blocks bytes ≡ past_end) ↔ RunsPast bytes

-- the overview of an EDID: rows 21 to 23, zeros beside one of them, and else bit by bit what the screen says
pub record Overview (edid : List ℕ) : Type 0 where
  pub given : GivenFirst (edid_rules edid) (monitor_of edid).refusal
  pub nothing : (monitor_of edid).refusal ≢ 0 → monitor_of edid ≡ no_monitor (monitor_of edid).refusal
  pub low : (monitor_of edid).refusal ≡ 0 → (v : ℕ) → 1 ≤ v → v < 32 → bit v (monitor_of edid).vics_low ≡ cond (screen_tells edid (Vic v)) 1 0
  pub high : (monitor_of edid).refusal ≡ 0 → (v : ℕ) → 32 ≤ v → v < 64 → bit (v - 32) (monitor_of edid).vics_high ≡ cond (screen_tells edid (Vic v)) 1 0
  pub two : (monitor_of edid).refusal ≡ 0 → (r : ℕ) → r < 7 → bit r (monitor_of edid).rates_2 ≡ cond (screen_tells edid (Pcm r 2)) 1 0
  pub eight : (monitor_of edid).refusal ≡ 0 → (r : ℕ) → r < 7 → bit r (monitor_of edid).rates_8 ≡ cond (screen_tells edid (Pcm r 8)) 1 0
  -- no other bit is set
  pub zero : bit 0 (monitor_of edid).vics_low ≡ 0
  pub above : (k : ℕ) → 32 ≤ k → (bit k (monitor_of edid).vics_low ≡ 0) × (bit k (monitor_of edid).vics_high ≡ 0)
  pub rates : (k : ℕ) → 7 ≤ k → (bit k (monitor_of edid).rates_2 ≡ 0) × (bit k (monitor_of edid).rates_8 ≡ 0)

-- a wish put in its place: the same request, but for VIC and family
abbrev pub wished_video : Wish → Video → Video
wished_video w v =
    record {
      vic = w.vic;
      family = w.family;
      encoding = v.encoding;
      link = v.link;
      range = v.range;
      pixel = v.pixel;
      edition = v.edition;
    }

pub record InPlace (w : Wish) (input : List ℕ) : Type 0 where
  pub request : (bodies : List (List ℕ)) (rest : List ℕ) → walked input ≡ whole bodies rest
      → request_of (walked (in_place w input)) ≡ on_video (wished_video w) (request_of (walked input))
  pub length : length (in_place w input) ≡ length input

-- the first wish that fits, and its place
pub record FirstFit (edid input wishes : List ℕ) (place : ℕ) : Type 0 where
  pub within : place < length (wishes_in wishes)
  pub fits : WishFits edid input (wish_at wishes place)
  pub earlier : (i : ℕ) → i < place → WishFits edid input (wish_at wishes i) → ⊥

-- its VIC and family at two places of the request, as a host puts them
abbrev pub put_at : ℕ → Wish → List ℕ → List ℕ
put_at at w input = set (set input at w.vic) (suc at) w.family

-- what an overview says of a wish: the bit of its VIC, and that of the sound
abbrev pub vic_bit : Monitor → ℕ → ℕ
vic_bit m v = cond (ltb v 32) (bit v m.vics_low) (bit (v - 32) m.vics_high)

abbrev pub SoundBit : Monitor → Sound → Type 0
SoundBit m Off = Unit {0}
SoundBit m (On rate channels coherent) = bit rate (cond (eqb channels 8) m.rates_8 m.rates_2) ≡ 1

pub record SeenToFit (m : Monitor) (input : List ℕ) (w : Wish) : Type 0 where
  pub listed : vic_bit m w.vic ≡ 1
  pub accepted : (ncts_of (in_place w input)).refusal ≡ 0
  pub covered : SoundBit m (request_of (walked (in_place w input))).sound

pub record Chooses (edid input wishes : List ℕ) : Type 0 where
  -- "refuse exactly if there is none": rows 21 to 24, the lowest that applies, and zeros beside it
  pub given : Bytes input → Bytes wishes → GivenFirst (choose_rules edid input wishes) (choose_of edid input wishes).refusal
  pub nothing : (choose_of edid input wishes).refusal ≢ 0 → choose_of edid input wishes ≡ no_choice (choose_of edid input wishes).refusal
  -- "answer the first"
  pub first : Bytes input → Bytes wishes → (choose_of edid input wishes).refusal ≡ 0 → FirstFit edid input wishes (choose_of edid input wishes).place
  -- where it goes; and with it the request is accepted by N and CTS
  pub put : (choose_of edid input wishes).refusal ≡ 0
      → put_at (choose_of edid input wishes).at (wish_at wishes (choose_of edid input wishes).place) input
      ≡ in_place (wish_at wishes (choose_of edid input wishes).place) input
  pub within : (choose_of edid input wishes).refusal ≡ 0 → suc (choose_of edid input wishes).at < length input
  pub accepted : (choose_of edid input wishes).refusal ≡ 0
      → (ncts_of (put_at (choose_of edid input wishes).at (wish_at wishes (choose_of edid input wishes).place) input)).refusal ≡ 0
  -- the overview of the same EDID says the same: a wish fits exactly where its bits are set and N and CTS accepts the request with it
  pub seen : Bytes input → (w : Wish) → w.vic < 256 → w.family < 256 → (monitor_of edid).refusal ≡ 0
      → WishFits edid input w ↔ SeenToFit (monitor_of edid) input w
