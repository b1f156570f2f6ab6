-- Document 02, request 10: "HDMI 1.4 gives, for each mode, the audio that fits into its blanking; a request beyond that must go." The table
-- whole, with the modes and repetitions that the standard lacks: each cell is what the blanking rule gives (`Standard`, Theorems).
use Rattle.std.specs.Prelude.{List, [], ◌∷◌, ℕ, ◌<◌, eqb, get_or}
use Rattle.lists.specs.Find.{find}
use Rattle.video.specs.declared.Video.{Video}
use Rattle.video.specs.Video.{repetition}
use Rattle.sound.specs.declared.Sound.{Sound}
use Rattle.sound.specs.declared.Sound.TheVariants.{Off, On}

-- VIC, and the highest rate of eight channels with each pixel sent once, twice and four times; two channels may have any rate
abbrev pub highest : List (ℕ × List ℕ)
highest =
    (1, 2 ∷ 6 ∷ 6 ∷ []) ∷
    (2, 2 ∷ 5 ∷ 6 ∷ []) ∷
    (3, 2 ∷ 5 ∷ 6 ∷ []) ∷
    (4, 6 ∷ 6 ∷ 6 ∷ []) ∷
    (5, 6 ∷ 6 ∷ 6 ∷ []) ∷
    (16, 6 ∷ 6 ∷ 6 ∷ []) ∷
    (17, 2 ∷ 5 ∷ 6 ∷ []) ∷
    (18, 2 ∷ 5 ∷ 6 ∷ []) ∷
    (19, 6 ∷ 6 ∷ 6 ∷ []) ∷
    (20, 6 ∷ 6 ∷ 6 ∷ []) ∷
    (31, 6 ∷ 6 ∷ 6 ∷ []) ∷
    (32, 6 ∷ 6 ∷ 6 ∷ []) ∷
    (34, 6 ∷ 6 ∷ 6 ∷ []) ∷
    (60, 6 ∷ 6 ∷ 6 ∷ []) ∷
    (62, 6 ∷ 6 ∷ 6 ∷ []) ∷ []

abbrev pub highest_rate : ℕ → ℕ → ℕ
highest_rate vic repetition = get_or (find (λ row. eqb row.0 vic) (0, []) highest).1 repetition 0

-- row 20: neither the family nor the depth counts
abbrev pub TooMuch : Video → Sound → Type 0
TooMuch video Off = ⊥
TooMuch video (On rate channels coherent) = (2 < channels) × (highest_rate video.vic (repetition video) < rate)
