-- Document 01, "The write list", and request 09 of document 02: the list and the finished image, as the code makes them; `want a` is the
-- byte whose named bits are wanted in register a. `Order` and `Entries` tie the full list to the document's words, `Fewer` what is left out
-- of it, which three always stay included (`Fewer.nine`), `Clauses.registers` (cut) and `BitByBit` (decode) the image. `flat` and `pairs_of`, pairs as
-- bytes and back, are to be read here; `ready` is row 8's (`AnyCut.again`).
use Rattle.std.specs.Prelude.{◌≡◌, Bool, true, cond, not, ◌&&◌, ◌||◌, List, [], ◌∷◌, ◌++◌, map, ℕ, zero, suc, eqb, ltb, length, get_or, drop}
use Rattle.lists.specs.Among.{among}
use Rattle.lists.specs.Those.{those}
use Rattle.bits.specs.Merge.{merge}
use Rattle.map.specs.Map as reg
use Rattle.registers.specs.Classes.{read_only, free, named, bits}
use Rattle.chip.specs.Machine.{Write, ◌gets◌, up, avi, audio, gc, packets, holds_of}
use Rattle.writes.specs.Rows.{from, hold_mask}
unfoldable pub use Rattle.writes.specs.Rows.{is_written}
use Rattle.writes.specs.Steps.{Step, ◌raising◌, middle, steps}

-- the bits of a register that steps decide, and no request
unfoldable pub decided : ℕ → ℕ
decided = hold_mask

-- "Each written byte carries its mandated bits, the image's free and read-only bits and the wanted named bits"; in these words: `Carrying`
unfoldable pub byte : ℕ → ℕ → ℕ → ℕ
byte a old wanted = merge 8 (read_only a) old (merge 8 (free a) old (merge 8 (named a) wanted (bits a)))

-- a step, with the byte that it writes on an image
unfoldable pub written : (ℕ → ℕ) → List ℕ → Step → Write
written want image step =
    step.register gets
    byte step.register (get_or image step.register 0) (merge 8 (decided step.register) step.raised (want step.register))

-- a list by its steps between mute and open
abbrev pub list_with : ((ℕ → ℕ) → List ℕ → List Step) → (ℕ → ℕ) → List ℕ → List Write
list_with between want image = map (written want image) (steps (between want image))

abbrev pub middle_of : (ℕ → ℕ) → List ℕ → List Step
middle_of want image = middle (up audio (holds_of packets image))

-- the list for an image with nothing left out
abbrev pub full_list : (ℕ → ℕ) → List ℕ → List Write
full_list = list_with middle_of

-- "its register's byte in the image already equals the wanted one, read-only bits aside": stored, it would leave the byte as it is; in
-- these words, bit by bit: `Equals`
unfoldable pub already_there : List ℕ → Write → Bool
already_there image w =
    let old : ℕ = get_or image w.address 0 in
    eqb (merge 8 (read_only w.address) old w.value) old

-- "All writes to the mute register, 0x4A and 0x1A stay."
abbrev pub the_three : List ℕ
the_three = reg.av_mute ∷ reg.infoframe_update ∷ reg.coefficient_update ∷ []

abbrev pub stays : List ℕ → Write → Bool
stays image w = among w.address the_three || not (already_there image w)

-- the write list for an image: the full one, without those that do not stay
abbrev pub write_list : (ℕ → ℕ) → List ℕ → List Write
write_list want image = those (stays image) (full_list want image)

-- the list as bytes, "Pairs of address and value"
unfoldable pub flat : List Write → List ℕ
flat [] = []
flat (w ∷ ws) = w.address ∷ w.value ∷ flat ws

-- and back: the pairs of some bytes; an odd one at the end is none
abbrev pub pairs_of : List ℕ → List Write
pairs_of [] = []
pairs_of (a ∷ []) = []
pairs_of (a ∷ v ∷ rest) = a gets v ∷ pairs_of rest

-- a list at the front of a buffer: "buffer bytes after the list stay"
abbrev pub fronted : List Write → List ℕ → List ℕ
fronted ws buffer = flat ws ++ drop (length (flat ws)) buffer

-- what a register's last step raises: holds down, and the picture open
abbrev pub left_up : ℕ → ℕ
left_up a = cond (eqb a reg.av_mute) reg.clear_av_mute_mask 0

-- the finished image, register by register: each of these with its mandated and wanted bits, holds down and the picture open;
-- every other as it was. (In the document's notation, field by field: `FinishedFields` of promises. That the list ends so: `Demand3`.)
unfoldable pub finished : (ℕ → ℕ) → List ℕ → ℕ → ℕ
finished want image a = cond (is_written a) (written want image (a raising left_up a)).value (get_or image a 0)

-- one number of each register; and so the finished image whole: 256 bytes
unfoldable pub column : (ℕ → ℕ) → List ℕ
column f = map f (from 0 256)

abbrev pub finished_image : (ℕ → ℕ) → List ℕ → List ℕ
finished_image want image = column (finished want image)

-- refusal 8 does not apply: GC hold down, and not both other holds up
abbrev pub ready : List ℕ → Bool
ready image = let n : ℕ = holds_of packets image in not (up gc n) && not (up avi n && up audio n)

-- whether every register below n stands as the list would leave it. (`finished` takes free and read-only bits from the image itself.)
unfoldable pub stands_below : (ℕ → ℕ) → List ℕ → ℕ → Bool
stands_below want image zero = true
stands_below want image (suc a) = eqb (finished want image a) (get_or image a 0) && stands_below want image a

-- an image of 256 bytes that stands so
abbrev pub stands_whole : (ℕ → ℕ) → List ℕ → Bool
stands_whole want image = eqb (length image) 256 && stands_below want image 256

-- no image of 256 bytes, or no room for a list
abbrev pub no_room : List ℕ → List ℕ → Bool
no_room image buffer = not (eqb (length image) 256) || ltb (length buffer) 256

-- what `write_list` promises: the list at the front of the buffer, and its count; where there is no room, nothing
abbrev pub Lists : (ℕ → ℕ) → List ℕ → List ℕ → ℕ → List ℕ → Type 0
Lists want image buffer count left =
    (count ≡ cond (no_room image buffer) 0 (length (write_list want image)))
    × (left ≡ cond (no_room image buffer) buffer (fronted (write_list want image) buffer))
