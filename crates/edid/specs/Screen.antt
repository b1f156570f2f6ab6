-- Document 02, request 12: what a screen says of itself, "the 128-byte EDID base block and at most one CEA-861 extension: header, checksums, short
-- video and audio descriptors". The layouts are VESA's and CEA-861's (docs/DECISIONS.md). `DataBlocks` (Theorems) says of the blocks, both ways,
-- what then stands in the extension.
use Rattle.std.specs.Prelude.{◌≡◌, ◌≢◌, ◌⊎◌, Bool, cond, ◌&&◌, List, [], ◌∷◌, map, ℕ, zero, suc, ◌+◌, ◌-◌, ◌*◌, ◌%◌, ◌<◌, ◌≤◌, eqb, leb, ltb, get_or, length, take, drop}
use Rattle.lists.specs.Among.{among}
use Rattle.lists.specs.Find.{some}
use Rattle.bits.specs.Merge.{bit, bits_in}
use Rattle.frames.specs.Frames.{total}
use Rattle.edid.specs.declared.Ask.{Ask}
use Rattle.edid.specs.declared.Ask.TheVariants.{Vic, Pcm}
use Rattle.edid.specs.Order.{ScreenCondition, ◌whenever◌, edid_length, edid_sum, edid_block}

-- blocks of 128 bytes, the first of which begins with its header
abbrev pub block_length : ℕ
block_length = 128

abbrev pub header : List ℕ
header = 0x00 ∷ 0xFF ∷ 0xFF ∷ 0xFF ∷ 0xFF ∷ 0xFF ∷ 0xFF ∷ 0x00 ∷ []

abbrev pub base : List ℕ → List ℕ
base edid = take block_length edid

abbrev pub extension : List ℕ → List ℕ
extension edid = drop block_length edid

-- row 21, "bad length .. or header": neither the base block alone nor that and one extension
abbrev pub WrongEdid : List ℕ → Type 0
WrongEdid edid = ((length edid ≢ block_length) × (length edid ≢ 2 * block_length)) ⊎ (take (length header) edid ≢ header)

-- row 22, "sum not zero modulo 256": of each block; an extension that is not there has no bytes
abbrev pub WrongSum : List ℕ → Type 0
WrongSum edid = (total (base edid) % 256 ≢ 0) ⊎ (total (extension edid) % 256 ≢ 0)

-- an extension's first bytes: its tag, 2 for CEA-861; its revision; and the offset, where its data blocks end
abbrev pub tag_of : List ℕ → ℕ
tag_of extension = get_or extension 0 0

abbrev pub revision_of : List ℕ → ℕ
revision_of extension = get_or extension 1 0

abbrev pub offset_of : List ℕ → ℕ
offset_of extension = get_or extension 2 0

-- the bytes of its data blocks: from byte 4 up to the offset; none with offset 0, and none in a revision below 3
abbrev pub collection : List ℕ → List ℕ
collection extension = cond (ltb (revision_of extension) 3) [] (take (offset_of extension - 4) (drop 4 extension))

-- a data block: its tag, in [7:5] of its first byte, and its bytes, as many as [4:0] of that byte says
pub record Block : Type 0 where
  pub tag : ℕ
  pub body : List ℕ

-- what is found where bytes are cut by these lengths: "A data block that runs past its end", or the blocks
pub data Blocks : Type 0 where
  past_end : Blocks
  blocks : List Block → Blocks

-- a block, and then what is found behind it
abbrev pub before : Block → Blocks → Blocks
before b past_end = past_end
before b (blocks bs) = blocks (b ∷ bs)

-- bytes cut into n blocks at the most, of which there are never more than bytes
unfoldable pub cut_up : ℕ → List ℕ → Blocks
cut_up zero [] = blocks []
cut_up zero (head ∷ bytes) = past_end
cut_up (suc n) [] = blocks []
cut_up (suc n) (head ∷ bytes) =
    let size : ℕ = bits_in 4 0 head in
    cond (leb size (length bytes)) (before (record { tag = bits_in 7 5 head; body = take size bytes }) (cut_up n (drop size bytes))) past_end

abbrev pub data_blocks : List ℕ → Blocks
data_blocks bytes = cut_up (length bytes) bytes

-- row 23, "bad block", of an extension that is there; a block that runs past its end "spoils the extension"
abbrev pub BadExtension : List ℕ → Type 0
BadExtension ext = (tag_of ext ≢ 2) ⊎ ((1 ≤ offset_of ext) × (offset_of ext ≤ 3)) ⊎ (127 < offset_of ext) ⊎ (data_blocks (collection ext) ≡ past_end)

abbrev pub BadBlock : List ℕ → Type 0
BadBlock edid = (length (extension edid) ≢ 0) × BadExtension (extension edid)

abbrev pub edid_rules : List ℕ → List ScreenCondition
edid_rules edid = edid_length whenever WrongEdid edid ∷ edid_sum whenever WrongSum edid ∷ edid_block whenever BadBlock edid ∷ []

-- "short video .. descriptors": the bytes of a video block, of tag 2, each a VIC in [6:0]; [7] says that it is native
abbrev pub vics_in : Block → List ℕ
vics_in b = cond (eqb b.tag 2) (map (bits_in 6 0) b.body) []

-- "short .. audio descriptors": three bytes each of an audio block, of tag 1; fewer at its end are none. The format is in [6:3] of the first byte
-- and in [2:0] the channels less one; the second has a bit for each rate
pub record Descriptor : Type 0 where
  pub format : ℕ
  pub channels : ℕ
  pub rates : ℕ

abbrev pub descriptor : ℕ → ℕ → Descriptor
descriptor first second = record { format = bits_in 6 3 first; channels = bits_in 2 0 first + 1; rates = second }

abbrev pub descriptors : List ℕ → List Descriptor
descriptors [] = []
descriptors (a ∷ []) = []
descriptors (a ∷ b ∷ []) = []
descriptors (a ∷ b ∷ c ∷ bytes) = descriptor a b ∷ descriptors bytes

abbrev pub descriptors_in : Block → List Descriptor
descriptors_in b = cond (eqb b.tag 1) (descriptors b.body) []

-- "covers": of linear PCM, format 1, one that has the rate, of the seven, and at least the channels
abbrev pub covered_by : ℕ → ℕ → Descriptor → Bool
covered_by rate channels d = eqb d.format 1 && (leb channels d.channels && (ltb rate 7 && eqb (bit rate d.rates) 1))

-- what a screen is asked: whether a short video descriptor lists a VIC, and whether an audio one covers a rate and channels
abbrev pub tells_in : Ask → Block → Bool
tells_in (Vic vic) b = among vic (vics_in b)
tells_in (Pcm rate channels) b = some (covered_by rate channels) (descriptors_in b)

abbrev pub blocks_of : Blocks → List Block
blocks_of past_end = []
blocks_of (blocks bs) = bs

abbrev pub tells : List ℕ → Ask → Bool
tells bytes ask = some (tells_in ask) (blocks_of (data_blocks bytes))

abbrev pub screen_tells : List ℕ → Ask → Bool
screen_tells edid = tells (collection (extension edid))
