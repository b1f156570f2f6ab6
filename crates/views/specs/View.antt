-- What is sent and the mute, asked for over slices, as the code finds them. `ViewRefusals` (Refusals) and `Faces` tie them to
-- document 01, "The chip machine"; `ViewCases` (Cases) has them in bare numbers.
use Rattle.std.specs.Prelude.{◌≡◌, Bool, false, cond, not, ◌&&◌, List, [], ◌∷◌, ℕ, ◌+◌, eqb, ltb, length}
use Rattle.refusals.specs.Rows.{field_out_of_range, image_length, two_holds}
use Rattle.refusals.specs.Tests.{Test, ◌if◌, lowest, answer}
use Rattle.chip.specs.Machine.{Group, avi, audio, packets, up, holds_of, in_use, mute}
use Rattle.chip.specs.declared.Chip.{Chip}
use Rattle.chip.specs.Write.{lent_as, two}
use Rattle.views.specs.Numbered.{Part, Mute}

-- "it is asked for by number, 0 AVI or 1 audio"
abbrev pub packet_at : ℕ → Group
packet_at which = cond (eqb which 0) avi audio

-- the tests of rows 7 and 13, and before them row 5 where a packet is asked for
abbrev pub lent_tests : List ℕ → List ℕ → List Test
lent_tests image packet =
    image_length if not (eqb (length image) 256 && eqb (length packet) 32) ∷ two_holds if two (holds_of packets image) ∷ []

unfoldable pub lent_refusal : List ℕ → List ℕ → ℕ
lent_refusal image packet = lowest (lent_tests image packet)

unfoldable pub view_refusal : List ℕ → List ℕ → ℕ → ℕ
view_refusal image packet which = lowest (field_out_of_range if ltb 1 which ∷ lent_tests image packet)

-- what a view is asked of: the coefficient buffer and its mark are not lent, and play no part
abbrev pub viewed_of : List ℕ → List ℕ → Chip
viewed_of image packet = lent_as image packet [] false

-- "a refused view is an empty part": the bytes that are sent
unfoldable pub sent_of : List ℕ → List ℕ → ℕ → List ℕ
sent_of image packet which = answer (view_refusal image packet which) (λ number. []) (in_use packets (packet_at which) (viewed_of image packet))

-- "a part of the register image or of the buffer, whichever the chip reads": the buffer's front where the hold is up, else the registers
abbrev pub placed : Bool → ℕ → ℕ → Part
placed is_up first count =
    cond is_up (record { refusal = 0; held = 1; start = 0; len = count }) (record { refusal = 0; held = 0; start = first; len = count })

-- a refusal has its number, and zeros beside it
abbrev pub no_part : ℕ → Part
no_part number = record { refusal = number; held = 0; start = 0; len = 0 }

unfoldable pub sent_part : List ℕ → List ℕ → ℕ → Part
sent_part image packet which =
    answer (view_refusal image packet which) no_part
    (placed (up (packet_at which) (holds_of packets image)) (packet_at which).first (packet_at which).count)

-- "whichever the chip reads", by a part's number
abbrev pub whichever : {A : Type 0} → Part → A → A → A
whichever p image packet = cond (eqb p.held 1) packet image

-- where in memory a part starts, by where the two slices start
abbrev pub start_in : Part → ℕ × ℕ → ℕ × ℕ → ℕ × ℕ
start_in p image packet = ((whichever p image packet).0, p.start + (whichever p image packet).1)

-- the mute bits of the GC byte in use
abbrev pub no_mute : ℕ → Mute
no_mute number = record { refusal = number; mute = 0 }

unfoldable pub mute_of : List ℕ → List ℕ → Mute
mute_of image packet = answer (lent_refusal image packet) no_mute (record { refusal = 0; mute = mute (viewed_of image packet) })

-- what each call promises: the part, its bytes and where it starts; the same in numbers; its refusal; the mute
abbrev pub Sends : List ℕ → List ℕ → ℕ → ℕ × ℕ → ℕ × ℕ → List ℕ → ℕ × ℕ → Type 0
Sends image packet which image_start packet_start bytes start =
    (bytes ≡ sent_of image packet which) × (start ≡ start_in (sent_part image packet which) image_start packet_start)

abbrev pub Places : List ℕ → List ℕ → ℕ → Part → Type 0
Places image packet which part = part ≡ sent_part image packet which

abbrev pub Refuses : List ℕ → List ℕ → ℕ → ℕ → Type 0
Refuses image packet which given = given ≡ view_refusal image packet which

abbrev pub Mutes : List ℕ → List ℕ → Mute → Type 0
Mutes image packet given = given ≡ mute_of image packet
