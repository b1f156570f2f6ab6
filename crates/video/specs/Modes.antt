-- Document 01, "Modes and clocks": the listed VICs, with their clocks in Hz, the families that they offer, and their picture aspect.
use Rattle.std.specs.Prelude.{◌≡◌, Bool, false, List, [], ◌∷◌, map, ℕ, ◌<◌, eqb, ltb, length, get_or}
use Rattle.lists.specs.Among.{among}
use Rattle.lists.specs.Find.{find}
use Rattle.video.specs.declared.Mode.{Mode}
use Rattle.video.specs.declared.Video.{Video}

-- VIC; clock in Hz at family 0; how many families it offers; picture aspect as the AVI InfoFrame's M has it, 1 for 4:3 and 2 for 16:9;
-- colorimetry as its C has it where the encoding is not RGB ("InfoFrames": 1 for VIC 1, 2, 3, 17, 18 and 2 for the rest)
abbrev pub mode : ℕ → ℕ → ℕ → ℕ → ℕ → Mode
mode vic hertz families aspect colorimetry =
    record { vic = vic; hertz = hertz; families = families; aspect = aspect; colorimetry = colorimetry }

abbrev pub modes : List Mode
modes =
    mode 1 25200000 2 1 1 ∷
    mode 2 27027000 2 1 1 ∷
    mode 3 27027000 2 2 1 ∷
    mode 4 74250000 2 2 2 ∷
    mode 5 74250000 2 2 2 ∷
    mode 16 148500000 2 2 2 ∷
    mode 17 27000000 1 1 1 ∷
    mode 18 27000000 1 2 1 ∷
    mode 19 74250000 1 2 2 ∷
    mode 20 74250000 1 2 2 ∷
    mode 31 148500000 1 2 2 ∷
    mode 32 74250000 2 2 2 ∷
    mode 34 74250000 2 2 2 ∷
    mode 60 59400000 2 2 2 ∷
    mode 62 74250000 2 2 2 ∷ []

-- the VICs that are listed
abbrev pub listed : List ℕ
listed = map (λ m. m.vic) modes

-- the row of a VIC; one that is not listed offers no family
abbrev pub unlisted : Mode
unlisted = mode 0 0 0 0 0

abbrev pub row_of : ℕ → List Mode → Mode
row_of vic = find (λ m. eqb m.vic vic) unlisted

unfoldable pub mode_of : ℕ → Mode
mode_of vic = row_of vic modes

-- a listed VIC has its own row of the table, and no other VIC has one
pub record ModeTable : Type 0 where
  pub row : (i : ℕ) → i < length modes → mode_of (get_or modes i unlisted).vic ≡ get_or modes i unlisted
  pub none : (vic : ℕ) → among vic listed ≡ false → mode_of vic ≡ unlisted

-- the VIC is listed, and offers the family
abbrev pub offered : Video → Bool
offered video = ltb video.family (mode_of video.vic).families
