-- Document 02, request 02: the wiring section. "count 0 for today's board, 4 for the four fields, 12 with four two-byte sync values".
use Rattle.std.specs.Prelude.{◌≢◌, ◌⊎◌, cond, List, [], ◌∷◌, ℕ, ◌+◌, ◌*◌, ◌/◌, ◌%◌, ◌<◌, eqb, get_or, length}
use Rattle.wiring.specs.declared.Kind.{Kind}
use Rattle.wiring.specs.declared.Wires.{Wires}
use Rattle.wiring.specs.declared.Wiring.{Wiring}
use Rattle.wiring.specs.declared.Wiring.TheVariants.{Board, Four, Twelve}
use Rattle.wiring.specs.Kinds.{depth_most, four_count, twelve_count, kind_of, most_sync}

-- what a body says, and the body that says it: the four fields are the input ID, its depth, its style and its justification, in the map's
-- codes; a sync value is two bytes, high byte first, and they are in the order of their registers
abbrev pub sync_at : List ℕ → ℕ → ℕ
sync_at body i = get_or body i 0 * 256 + get_or body (i + 1) 0

abbrev pub wiring_in : List ℕ → Wiring
wiring_in body =
    cond (eqb (length body) 0) Board
    (cond (eqb (length body) twelve_count)
    (Twelve (get_or body 0 0) (get_or body 1 0) (get_or body 2 0) (get_or body 3 0) (sync_at body 4) (sync_at body 6) (sync_at body 8) (sync_at body 10))
    (Four (get_or body 0 0) (get_or body 1 0) (get_or body 2 0) (get_or body 3 0)))

abbrev pub wiring_body : Wiring → List ℕ
wiring_body Board = []
wiring_body (Four input depth style justification) = input ∷ depth ∷ style ∷ justification ∷ []
wiring_body (Twelve input depth style justification a b c d) =
    input ∷ depth ∷ style ∷ justification ∷
    a / 256 ∷ a % 256 ∷ b / 256 ∷ b % 256 ∷ c / 256 ∷ c % 256 ∷ d / 256 ∷ d % 256 ∷ []

abbrev pub count_of : Wiring → ℕ
count_of Board = 0
count_of (Four input depth style justification) = four_count
count_of (Twelve input depth style justification a b c d) = twelve_count

-- the numbers that it has in the registers. Of today's board: document 01, "RGB, 24 bits, input ID 0"; a sync value that it does not have is 0
abbrev pub wires : ℕ → ℕ → ℕ → ℕ → ℕ → ℕ → ℕ → ℕ → Wires
wires input depth style justification a b c d =
    record {
      input = input;
      depth = depth;
      style = style;
      justification = justification;
      hplacement = a;
      hduration = b;
      vplacement = c;
      vduration = d;
    }

abbrev pub wires_of : Wiring → Wires
wires_of Board = wires 0 0b11 0b00 0b00 0 0 0 0
wires_of (Four input depth style justification) = wires input depth style justification 0 0 0 0
wires_of (Twelve input depth style justification a b c d) = wires input depth style justification a b c d

-- row 5, of this section: "an undefined combination, ID 0, or a count that does not fit the ID is 5"; a sync value is "0 to 1023, for an
-- embedded ID". ID 0 is the ID of count 0. `EachByte` (promises) has what is drawn in bare numbers
abbrev pub Undrawn : Kind → Wires → Type 0
Undrawn k n =
    (n.depth < k.least) ⊎ (depth_most < n.depth) ⊎ (n.style < k.first) ⊎ (k.last < n.style) ⊎ (k.ways < n.justification)

abbrev pub SyncBeyond : ℕ → Wires → Type 0
SyncBeyond most n = (most < n.hplacement) ⊎ (most < n.hduration) ⊎ (most < n.vplacement) ⊎ (most < n.vduration)

abbrev pub WiringOutside : Wiring → Type 0
WiringOutside w =
    let n : Wires = wires_of w in
    let k : Kind = kind_of n.input in
    Undrawn k n ⊎ (count_of w ≢ k.count) ⊎ SyncBeyond (most_sync k.count) n
