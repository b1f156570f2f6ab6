-- Document 01, "What each entry point owes", of the answers that the code hands out. `Settled` says what these are in numbers; here any two of them
-- that the contract of a call allows are equal, with what is left in the lent bytes: so what an answer is told as leaves nothing of it open.
use Rattle.std.specs.Prelude.{◌≡◌, ◌≢◌, Result, Ok, Err, IfOk, IfErr, List, ℕ, Float}
use Rattle.refusals.specs.declared.Refusal.{Refusal}
use Rattle.refusals.specs.declared.Refusal.TheVariants.{BadPair}
use Rattle.refusals.specs.Numbered.{given_by}
use Rattle.video.specs.declared.Video.{Video}
use Rattle.sound.specs.declared.Sound.{Sound}
use Rattle.clock.specs.declared.Hertz.{Hertz}
use Rattle.clock.specs.declared.NCts.{NCts}
use Rattle.clock.specs.Numbered.{clock_told, pair_told}
use Rattle.clock.specs.Answers.{GivesClock}
use Rattle.clock.specs.Found.{GivesPair}
use Rattle.frames.specs.Answers.{avi_told, audio_told, GivesAvi, GivesAudio}
use Rattle.matrix.specs.declared.Codes.{Codes}
use Rattle.matrix.specs.declared.Matrix.{Matrix}
use Rattle.matrix.specs.Numbered.{pixel_told}
use Rattle.matrix.specs.Preview.{Previews}
use Rattle.meter.specs.declared.Meter.{Meter}
use Rattle.meter.specs.Numbered.{converted_told, metered_told}
use Rattle.meter.specs.Numbers.{numbers_of}
use Rattle.meter.specs.Found.{converted, Meters}
use Rattle.request.specs.declared.Request.{Request}
use Rattle.request.specs.declared.Known.{Known}
use Rattle.request.specs.Sections.{walked}
use Rattle.request.specs.Places.{places_of}
use Rattle.request.specs.Numbered.{places_told, ask_told, limit_number, known_told, checked_told, within_told}
use Rattle.request.specs.Read.{limit_of, allowed_of, Asks, Reads, Pairs, PairsInput}
use Rattle.pipe.specs.declared.Said.{Said}
use Rattle.pipe.specs.Numbered.{piped_told, IsNumbered}
use Rattle.pipe.specs.Found.{TakesPart, EndsPipe}
use Rattle.edid.specs.declared.Screen.{Screen}
use Rattle.edid.specs.declared.Chosen.{Chosen}
use Rattle.edid.specs.Found.{monitor_told, ShowsScreen, choice_told, ChoosesWish}
use Rattle.line.specs.declared.buffer.Text.{Text}
use Rattle.line.specs.Words.{Prints, PrintsAnswer}
use Rattle.line.specs.Verdict.{PrintsVerdict}
use Rattle.chip.specs.declared.Chip.{Chip}
use Rattle.chip.specs.Numbered.{wrote_told, applied_told}
use Rattle.chip.specs.Write.{lent_as, Hands}
use Rattle.views.specs.declared.view.Place.{Place}
use Rattle.views.specs.Numbered.{count_told, part_told, mute_told}
use Rattle.views.specs.Entry.{marked, Lent, Writes, Turns}
use Rattle.views.specs.View.{Places, Refuses, Mutes}
use Rattle.views.specs.Converter.{ShowsMatrix}
use Rattle.plan.specs.Numbered.{planned_told}
use Rattle.plan.specs.Plan.{Plans}
use Rattle.decode.specs.Numbered.{decoded_told}
use Rattle.decode.specs.Decode.{Decodes}
use Rattle.vendor.specs.declared.Fault.{Fault}
use Rattle.vendor.specs.declared.Fault.TheVariants.{Refused}
use Rattle.vendor.specs.Numbered.{verdict_told}
use Rattle.vendor.specs.Found.{Vets}
use Rattle.promises.specs.Settled.{Settles}

-- One line for each public function whose contract tells its answer in numbers: all clauses of its `ensures`, by the same predicates, so that a
-- contract which allowed two answers would make its line false. What the other functions answer is what `Settled` speaks of.
pub record SettledAnswers : Type 0 where
  pub plan : (request image writes : List ℕ)
      → Settles {A = Result ℕ Refusal × List ℕ} (λ o. Plans request image writes (planned_told o.0) o.1)
  pub decode : (image request : List ℕ)
      → Settles {A = Result ℕ Refusal × List ℕ} (λ o. Decodes image request (decoded_told o.0) o.1)
  -- a request: of rows 1 to 6, and of 17 and 20, beside which it is known
  pub read : (request : List ℕ)
      → Settles {A = Result Known Refusal}
      (λ r.
      Reads request (checked_told r) × IfOk r (λ k. Asks request (ask_told (Ok k.request))) ×
      IfErr r (λ e. Asks request (ask_told (Err e))) ×
      IfOk r (λ k. limit_number k.limit ≡ limit_of k.request.video k.request.sound))
  pub ask : (request : List ℕ) → Settles {A = Result Request Refusal} (λ r. Asks request (ask_told r))
  pub walk : (request : List ℕ) → Settles {A = Result (List ℕ) Refusal} (λ r. places_told r ≡ places_of (walked request))
  pub limits : (video : Video) (sound : Sound) → Settles {A = Result (Unit {0}) Refusal} (λ r. given_by r ≡ limit_of video sound)
  pub allowed : (r : Request) → Settles {A = Result (Unit {0}) Refusal} (λ a. given_by a ≡ allowed_of r)
  pub within : (k : Known) → Settles {A = Result Request Refusal} (λ r. within_told k.request r ≡ known_told k)
  pub ncts : (request : List ℕ) → Settles {A = Result NCts Refusal} (λ r. PairsInput request (pair_told r))
  pub pairs : (r : Request) → Settles {A = Result NCts Refusal} (λ p. Pairs r (pair_told p))
  -- the lines of the programs
  pub line : (request : List ℕ) → Settles {A = Text} (λ t. Prints request t.count t.bytes)
  pub answer : (refusal : ℕ) (request : List ℕ) → Settles {A = Text} (λ t. PrintsAnswer refusal request t.count t.bytes)
  pub verdict : (refusal place : ℕ) → Settles {A = Text} (λ t. PrintsVerdict refusal place t.count t.bytes)
  pub preview : (matrix : List ℕ) (a b c : ℕ) → Settles {A = Result Codes Refusal} (λ r. Previews matrix a b c (pixel_told r))
  pub meter : (numbers : List Float) (buffer : List ℕ)
      → Settles {A = Result ℕ Refusal × List ℕ} (λ o. Meters numbers buffer (metered_told o.0) o.1)
  pub convert : (m : Meter) → Settles {A = Result Matrix Refusal} (λ r. converted_told r ≡ converted (numbers_of m))
  -- a part of a request, and its end
  pub take : (pipe part : List ℕ)
      → Settles {A = Said × List ℕ} (λ o. TakesPart pipe part (piped_told o.0) o.1 × IsNumbered o.0)
  pub end : (pipe : List ℕ) → Settles {A = Said × List ℕ} (λ o. EndsPipe pipe (piped_told o.0) o.1 × IsNumbered o.0)
  pub overview : (edid : List ℕ) → Settles {A = Result Screen Refusal} (λ r. ShowsScreen edid (monitor_told r))
  pub choose : (edid request wishes : List ℕ)
      → Settles {A = Result Chosen Refusal} (λ r. ChoosesWish edid request wishes (choice_told r))
  pub clock : (video : Video) → Settles {A = Result Hertz Refusal} (λ r. GivesClock video (clock_told r))
  pub pair : (video : Video) (rate coherent : ℕ)
      → Settles {A = Result NCts Refusal} (λ r. GivesPair video rate coherent (pair_told r))
  pub avi : (video : Video) → Settles {A = Result (List ℕ) Refusal} (λ r. GivesAvi video (avi_told r))
  pub audio : (channels : ℕ) → Settles {A = Result (List ℕ) Refusal} (λ r. GivesAudio channels (audio_told r))
  pub write : (s : Chip) (address value : ℕ) → Settles {A = Result Chip Refusal} (λ r. Hands s address value (wrote_told s r))
  -- to a state that is lent, with what it leaves there; and over slices
  pub apply : (s : Chip) (address value : ℕ)
      → Settles {A = Result (Unit {0}) Refusal × Chip} (λ o. Hands s address value (applied_told o.1 o.0))
  pub enter : (l : Lent) (address value : ℕ)
      → Settles {A = Result (Unit {0}) Refusal × Lent} (λ o. Writes l address value (given_by o.0) o.1)
  pub vsync : (l : Lent) → Settles {A = Result (Unit {0}) Refusal × Lent} (λ o. Turns l (given_by o.0) o.1)
  pub part : (image packet : List ℕ) (which : ℕ) → Settles {A = Result Place Refusal} (λ r. Places image packet which (part_told r))
  pub refusal : (image packet : List ℕ) (which : ℕ)
      → Settles {A = Result (Unit {0}) Refusal} (λ r. Refuses image packet which (given_by r))
  pub mute : (image packet : List ℕ) → Settles {A = Result ℕ Refusal} (λ r. Mutes image packet (mute_told r))
  pub matrix : (image coefficients : List ℕ) (mark : ℕ) (out : List ℕ)
      → Settles {A = Result ℕ Refusal × List ℕ} (λ o. ShowsMatrix image coefficients mark out (count_told o.0) o.1)
  -- a vendor's list: document 02, request 03
  pub vet : (image packet coefficients : List ℕ) (mark : ℕ) (list : List ℕ)
      → Settles {A = Result (Unit {0}) Fault}
      (λ r.
      Vets (lent_as image packet coefficients (marked mark)) list (verdict_told r) ×
      IfErr r (λ fault. fault ≢ Refused BadPair))
