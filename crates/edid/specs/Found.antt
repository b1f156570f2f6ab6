-- How the code looks into an EDID, and finds the first wish that fits. `Overview` and `Chooses` (Theorems) tie it to document 02's words.
use Rattle.std.specs.Prelude.{◌≡◌, Result, Bool, true, false, cond, not, ◌&&◌, ◌||◌, List, [], ◌∷◌, ℕ, zero, suc, ◌+◌, ◌*◌, ◌%◌, eqb, leb, ltb, length, take}
use Rattle.lists.specs.Find.{some}
use Rattle.lists.specs.Same.{same_list}
use Rattle.refusals.specs.declared.Refusal.{Refusal}
use Rattle.refusals.specs.Numbered.{told}
use Rattle.refusals.specs.Tests.{answer}
use Rattle.frames.specs.Frames.{total}
use Rattle.sound.specs.declared.Sound.{Sound}
use Rattle.sound.specs.declared.Sound.TheVariants.{Off, On}
use Rattle.request.specs.Sections.{Walk, ends, not_allowed, whole, walked, by_name, longest}
use Rattle.request.specs.Read.{read_of, ncts_of}
use Rattle.edid.specs.declared.Ask.{Ask}
use Rattle.edid.specs.declared.Ask.TheVariants.{Vic, Pcm}
use Rattle.edid.specs.declared.Screen.{Screen}
use Rattle.edid.specs.declared.Chosen.{Chosen}
use Rattle.edid.specs.Numbered.{Monitor}
use Rattle.edid.specs.Numbered.{Choice}
use Rattle.edid.specs.Order.{ScreenRow, screen_number, edid_length, edid_sum, edid_block, no_wish_fits}
use Rattle.edid.specs.Screen.{block_length, header, base, extension, tag_of, offset_of, collection, Blocks, past_end, blocks, data_blocks, tells}
use Rattle.edid.specs.Wish.{Wish, wishes_in, most_wishes, in_place}

-- the tests that a call makes, each for a row; it gives the number of the first that is true, 0 for none
abbrev pub lowest_row : List (ScreenRow × Bool) → ℕ
lowest_row [] = 0
lowest_row (t ∷ ts) = cond t.1 (screen_number t.0) (lowest_row ts)

abbrev pub is_past : Blocks → Bool
is_past past_end = true
is_past (blocks bs) = false

-- the tests of rows 21 to 23
abbrev pub is_edid_length : List ℕ → Bool
is_edid_length edid = eqb (length edid) block_length || eqb (length edid) (2 * block_length)

abbrev pub is_edid : List ℕ → Bool
is_edid edid = is_edid_length edid && same_list (take (length header) edid) header

abbrev pub wrong_sum : List ℕ → Bool
wrong_sum edid = not (eqb (total (base edid) % 256) 0 && eqb (total (extension edid) % 256) 0)

abbrev pub wrong_start : List ℕ → Bool
wrong_start ext = not (eqb (tag_of ext) 2) || ((leb 1 (offset_of ext) && leb (offset_of ext) 3) || ltb 127 (offset_of ext))

abbrev pub bad_extension : List ℕ → Bool
bad_extension ext = wrong_start ext || is_past (data_blocks (collection ext))

abbrev pub bad_block : List ℕ → Bool
bad_block edid = not (eqb (length (extension edid)) 0) && bad_extension (extension edid)

abbrev pub edid_tests : List ℕ → List (ScreenRow × Bool)
edid_tests edid = (edid_length, not (is_edid edid)) ∷ (edid_sum, wrong_sum edid) ∷ (edid_block, bad_block edid) ∷ []

unfoldable pub edid_refusal : List ℕ → ℕ
edid_refusal edid = lowest_row (edid_tests edid)

-- answers to n questions from one on, as bits of a number
abbrev pub word_of : (ℕ → Bool) → ℕ → ℕ → ℕ
word_of f from zero = 0
word_of f from (suc n) = cond (f from) 1 0 + 2 * word_of f (suc from) n

-- the questions of an overview: by their channels, 0 for VICs
abbrev pub ask_at : ℕ → ℕ → Ask
ask_at channels n = cond (eqb channels 0) (Vic n) (Pcm n channels)

abbrev pub word_in : List ℕ → ℕ → ℕ → ℕ → ℕ
word_in bytes channels from n = word_of (λ k. tells bytes (ask_at channels k)) from n

abbrev pub no_monitor : ℕ → Monitor
no_monitor n = record { refusal = n; vics_low = 0; vics_high = 0; rates_2 = 0; rates_8 = 0 }

-- what an overview says in numbers
abbrev pub monitor_told : Result Screen Refusal → Monitor
monitor_told = told (λ s. record { refusal = 0; vics_low = s.vics_low; vics_high = s.vics_high; rates_2 = s.rates_2; rates_8 = s.rates_8 }) no_monitor

-- VICs 1 to 31, 32 to 63; rates 0 to 6 with two channels, and with eight
abbrev pub overview_of : List ℕ → Monitor
overview_of bytes =
    record {
      refusal = 0;
      vics_low = 2 * word_in bytes 0 1 31;
      vics_high = word_in bytes 0 32 32;
      rates_2 = word_in bytes 2 0 7;
      rates_8 = word_in bytes 8 0 7;
    }

unfoldable pub monitor_of : List ℕ → Monitor
monitor_of edid = answer (edid_refusal edid) no_monitor (overview_of (collection (extension edid)))

abbrev pub ShowsScreen : List ℕ → Monitor → Type 0
ShowsScreen edid given = given ≡ monitor_of edid

-- the sound of a request that is accepted
abbrev pub sound_told : List ℕ → Sound → Bool
sound_told bytes Off = true
sound_told bytes (On rate channels coherent) = tells bytes (Pcm rate channels)

abbrev pub is_shown : List ℕ → List ℕ → Bool
is_shown bytes input = eqb (ncts_of input).refusal 0 && sound_told bytes (read_of input).request.sound

unfoldable pub is_fitting : List ℕ → List ℕ → Wish → Bool
is_fitting bytes input w = tells bytes (Vic w.vic) && is_shown bytes (in_place w input)

-- the place of the first that passes a test; how many there are where none does
abbrev pub first_at : {A : Type 0} → (A → Bool) → List A → ℕ
first_at test [] = 0
first_at test (x ∷ xs) = cond (test x) 0 (suc (first_at test xs))

-- where the VIC stands in an input whose sections a walk finds: behind the wiring section and a count. 0 where there is no such place, or where
-- the input is longer than any request
abbrev pub vic_in : Walk → ℕ
vic_in ends = 0
vic_in not_allowed = 0
vic_in (whole bodies rest) = suc (suc (length (by_name bodies).wiring))

abbrev pub vic_at : List ℕ → ℕ
vic_at input = cond (ltb longest (length input)) 0 (vic_in (walked input))

abbrev pub wrong_wishes : List ℕ → Bool
wrong_wishes wishes = not (eqb (length wishes % 2) 0) || ltb (2 * most_wishes) (length wishes)

abbrev pub choose_tests : List ℕ → List ℕ → List ℕ → List (ScreenRow × Bool)
choose_tests edid input wishes =
    (edid_length, not (is_edid edid) || wrong_wishes wishes) ∷
    (edid_sum, wrong_sum edid) ∷
    (edid_block, bad_block edid) ∷
    (no_wish_fits, not (some (is_fitting (collection (extension edid)) input) (wishes_in wishes))) ∷ []

abbrev pub no_choice : ℕ → Choice
no_choice n = record { refusal = n; place = 0; at = 0 }

-- what a choice says in numbers
abbrev pub choice_told : Result Chosen Refusal → Choice
choice_told = told (λ c. record { refusal = 0; place = c.place; at = c.at }) no_choice

unfoldable pub choose_of : List ℕ → List ℕ → List ℕ → Choice
choose_of edid input wishes =
    answer (lowest_row (choose_tests edid input wishes)) no_choice
    (record { refusal = 0; place = first_at (is_fitting (collection (extension edid)) input) (wishes_in wishes); at = vic_at input })

abbrev pub ChoosesWish : List ℕ → List ℕ → List ℕ → Choice → Type 0
ChoosesWish edid input wishes given = given ≡ choose_of edid input wishes
