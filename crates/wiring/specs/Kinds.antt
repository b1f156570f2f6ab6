-- Document 02, request 02: "input IDs 1 to 8 with depth, style and justification as source document 000 gives them". One table, a row for each
-- ID; the rules are over its row. `EachByte` (promises) has the same in bare numbers; docs/DECISIONS.md, 02.2 and 02.3, holds it against Tables 15
-- to 28 of 000, which draw the combinations.
use Rattle.std.specs.Prelude.{Bool, cond, List, [], ◌∷◌, ℕ, eqb, get_or}
use Rattle.wiring.specs.declared.Kind.{Kind}

-- 1 where the ID counts as RGB; the count of its section; its lowest depth; its lowest and its highest style; its highest justification. The
-- codes are Table 28's: depth 01, 10, 11 for 10, 12, 8 bits; style 10, 01, 11 for styles 1, 2, 3; justification 00, 01, 10 for evenly
-- distributed, right, left; 00 of depth and style and 11 of justification are invalid
abbrev pub kind : ℕ → ℕ → ℕ → ℕ → ℕ → ℕ → Kind
kind rgb count least first last ways = record { rgb = rgb; count = count; least = least; first = first; last = last; ways = ways }

-- the highest depth, of each; and the counts: "count 0 for today's board, 4 for the four fields, 12 with four two-byte sync values, .. for an
-- embedded ID"
abbrev pub depth_most : ℕ
depth_most = 0b11

abbrev pub four_count : ℕ
four_count = 4

abbrev pub twelve_count : ℕ
twelve_count = 12

-- ID 0 is today's board, by document 01 "RGB, 24 bits, input ID 0": 8 bits a colour; "There is no need to set the Input Style .. or channel
-- alignment" (000, under Table 16). "IDs 0 and 5 count as RGB". ID 5 has no justification: 0x48[4:3] is for 4:2:2
abbrev pub kinds : List Kind
kinds =
    kind 1 0 0b11 0b00 0b00 0b00 ∷  -- 0: Table 16
    kind 0 four_count 0b01 0b01 0b11 0b10 ∷  -- 1: Tables 17 to 19, three styles
    kind 0 twelve_count 0b01 0b01 0b11 0b10 ∷  -- 2: the same, embedded syncs
    kind 0 four_count 0b01 0b01 0b10 0b10 ∷  -- 3: Tables 20 to 22, two styles
    kind 0 twelve_count 0b01 0b01 0b10 0b10 ∷  -- 4: the same, embedded syncs
    kind 1 four_count 0b01 0b01 0b11 0b00 ∷  -- 5: Tables 23 and 24, three styles
    kind 0 four_count 0b01 0b01 0b11 0b10 ∷  -- 6: Tables 25 to 27, three styles
    kind 0 four_count 0b01 0b01 0b10 0b10 ∷  -- 7: Tables 20 to 22
    kind 0 twelve_count 0b01 0b01 0b10 0b10 ∷ []  -- 8: the same, embedded syncs

-- no ID: no depth fits it
abbrev pub no_kind : Kind
no_kind = kind 0 0 0b100 0b00 0b00 0b00

unfoldable pub kind_of : ℕ → Kind
kind_of input = get_or kinds input no_kind

-- the ID counts as RGB
abbrev pub rgb_in : ℕ → Bool
rgb_in input = eqb (kind_of input).rgb 1

-- the largest sync value, by the count: "0 to 1023, for an embedded ID"; 0 for another
abbrev pub most_sync : ℕ → ℕ
most_sync count = cond (eqb count twelve_count) 1023 0
