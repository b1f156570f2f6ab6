-- How the code finds row 20: by the modes in which eight channels do not have every rate. `RoomRule` (Theorems) ties it to the table.
use Rattle.std.specs.Prelude.{Bool, false, cond, ◌&&◌, [], ◌∷◌, ℕ, eqb, ltb, get_or}
use Rattle.video.specs.declared.Video.{Video}
use Rattle.video.specs.Video.{repetition}
use Rattle.sound.specs.declared.Sound.{Sound}
use Rattle.sound.specs.declared.Sound.TheVariants.{Off, On}
use Rattle.blanking.specs.declared.Highest.{Highest}

-- the highest rate of eight channels, each pixel sent once and twice; sent four times, and in the other modes, it is 6
abbrev pub one_row : ℕ → ℕ → Highest
one_row once twice = record { once = once; twice = twice }

unfoldable pub highest_of : ℕ → Highest
highest_of vic =
    cond (eqb vic 1) (one_row 2 6)
    (cond (eqb vic 2) (one_row 2 5)
    (cond (eqb vic 3) (one_row 2 5)
    (cond (eqb vic 17) (one_row 2 5)
    (cond (eqb vic 18) (one_row 2 5) (one_row 6 6)))))

abbrev pub most_of : ℕ → ℕ → ℕ
most_of vic repetition = get_or ((highest_of vic).once ∷ (highest_of vic).twice ∷ []) repetition 6

abbrev pub is_beyond : ℕ → ℕ → ℕ → ℕ → Bool
is_beyond vic repetition rate channels = eqb channels 8 && ltb (most_of vic repetition) rate

unfoldable pub beyond : ℕ → ℕ → Sound → Bool
beyond vic repetition Off = false
beyond vic repetition (On rate channels coherent) = is_beyond vic repetition rate channels

abbrev pub too_much : Video → Sound → Bool
too_much video sound = beyond video.vic (repetition video) sound
