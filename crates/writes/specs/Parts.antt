-- The list as the code stores it, part after part, from the closed bytes (`closed` of Columns). No theorem speaks of it: proofs/Parts ties
-- it to `write_list`, of which `Lists`, the contract of `write_list`, speaks.
use Rattle.std.specs.Prelude.{◌≡◌, not, cond, List, [], ◌∷◌, ◌++◌, map, ℕ, ◌+◌, ◌-◌, ◌*◌, eqb, length, get_or}
use Rattle.std.proofs.lemmas.List.Edits.{sets}
use Rattle.lists.specs.Those.{those}
use Rattle.bits.specs.Merge.{merge}
use Rattle.map.specs.Map as reg
use Rattle.chip.specs.Machine.{Write, ◌gets◌, audio, packets, up, holds_of}
use Rattle.writes.specs.Steps.{from}
use Rattle.writes.specs.List.{flat}

-- these pairs, stored from the at-th place of a list on, and the place after them
abbrev pub Puts : List ℕ → ℕ → List Write → ℕ → List ℕ → Type 0
Puts buffer at ws next left = (next ≡ at + length ws) × (left ≡ sets buffer (2 * at) (flat ws))

-- a register, with some bits of its byte raised
abbrev pub with_bits : List ℕ → ℕ → ℕ → List Write
with_bits bytes a bits = a gets merge 8 bits bits (get_or bytes a 0) ∷ []

-- of some registers those whose byte is another than the image's
abbrev pub moving : List ℕ → List ℕ → List ℕ → List Write
moving image bytes registers = map (λ a. a gets get_or bytes a 0) (those (λ a. not (eqb (get_or bytes a 0) (get_or image a 0))) registers)

-- the third of the coefficients' registers has their hold, "kept up"
abbrev pub third : List ℕ → List Write
third bytes = with_bits bytes reg.coefficient_update reg.coefficient_update_mask

abbrev pub coefficient_pairs : List ℕ → List ℕ → List Write
coefficient_pairs image bytes =
    with_bits bytes reg.coefficient_update reg.coefficient_update_mask ++ moving image bytes (from reg.csc 2) ++ third bytes ++
    moving image bytes (from (reg.coefficient_update + 1) (reg.csc_count - 3)) ++ with_bits bytes reg.coefficient_update 0

abbrev pub packet_pairs : ℕ → ℕ → ℕ → List ℕ → List ℕ → List Write
packet_pairs hold first count image bytes =
    with_bits bytes reg.infoframe_update hold ++ moving image bytes (from first count) ++ with_bits bytes reg.infoframe_update 0

abbrev pub avi_pairs : List ℕ → List ℕ → List Write
avi_pairs = packet_pairs reg.avi_packet_update_mask reg.avi_infoframe_version reg.avi_infoframe_count

abbrev pub audio_pairs : List ℕ → List ℕ → List Write
audio_pairs = packet_pairs reg.audio_infoframe_packet_update_mask reg.audio_infoframe_version reg.audio_infoframe_count

abbrev pub both_pairs : List ℕ → List ℕ → List Write
both_pairs image bytes =
    cond (up audio (holds_of packets image)) (audio_pairs image bytes ++ avi_pairs image bytes)
    (avi_pairs image bytes ++ audio_pairs image bytes)
