-- What the calls answer, in the paper's numbers: the number of a refusal, 0 for none, and what stands beside it.
-- The number is that of `refusal_number`: no two refusals have one (`refusals::told_apart`).
use Rattle.std.specs.Prelude.{Option, Some, None, Result, List, ℕ, length, replicate}
use Rattle.refusals.specs.declared.Refusal.{Refusal}
use Rattle.refusals.specs.Numbered.{refusal_number, told}
use Rattle.wiring.specs.declared.Wiring.TheVariants.{Board}
use Rattle.video.specs.Video.{no_video}
use Rattle.sound.specs.declared.Sound.TheVariants.{Off}
use Rattle.matrix.specs.Matrix.{no_matrix}
use Rattle.request.specs.declared.Request.{Request}
use Rattle.request.specs.declared.Known.{Known}
use Rattle.request.specs.Sections.{sections}

-- where the body of each section ends in the input; beside a refusal stand zeros
pub record BodyEnds : Type 0 where
  pub refusal : ℕ
  pub ends : List ℕ

abbrev pub places_told : Result (List ℕ) Refusal → BodyEnds
places_told = told (λ ends. record { refusal = 0; ends = ends }) (λ n. record { refusal = n; ends = replicate (length sections) 0 })

-- a request, and the refusal of one
pub record Checked : Type 0 where
  pub refusal : ℕ
  pub request : Request

-- a refusal of rows 1 to 6 stands beside an empty request: today's board, fields 0, audio off, no matrix
abbrev pub emptied : ℕ → Checked
emptied number = record { refusal = number; request = record { wiring = Board; video = no_video; sound = Off; matrix = no_matrix } }

-- the request that an input asks for: no row refuses it, or one of rows 1 to 6 does
abbrev pub ask_told : Result Request Refusal → Checked
ask_told = told (λ r. record { refusal = 0; request = r }) emptied

-- and with rows 17 and 20, beside which the request stays known
abbrev pub limit_number : Option Refusal → ℕ
limit_number None = 0
limit_number (Some e) = refusal_number e

abbrev pub known_told : Known → Checked
known_told r = record { refusal = limit_number r.limit; request = r.request }

abbrev pub checked_told : Result Known Refusal → Checked
checked_told = told known_told emptied

-- what reading says, where rows 17 and 20 refuse too
abbrev pub within_told : Request → Result Request Refusal → Checked
within_told r = told (λ x. record { refusal = 0; request = x }) (λ n. record { refusal = n; request = r })
