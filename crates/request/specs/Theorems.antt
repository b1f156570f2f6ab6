-- What is proved of a request: document 01, "The request" and "Refusal numbers".
use Rattle.std.specs.Prelude.{◌≡◌, ◌≢◌, List, ℕ}
use Rattle.refusals.specs.Rows.{Given}
use Rattle.wiring.specs.declared.Wiring.TheVariants.{Board}
use Rattle.video.specs.Video.{no_video}
use Rattle.sound.specs.declared.Sound.TheVariants.{Off}
use Rattle.matrix.specs.Matrix.{no_matrix, Bytes}
use Rattle.request.specs.Sections.{walked}
use Rattle.request.specs.Request.{request_of, ask_rules, read_rules, ncts_rules}
use Rattle.request.specs.Read.{ask_of, read_of, ncts_of}

pub record Rows (input : List ℕ) : Type 0 where
  -- of the rows that a call checks, the lowest that applies is given, and none is given otherwise
  pub asks : Bytes input → Given (ask_rules (walked input)) (ask_of input).refusal
  pub read : Bytes input → Given (read_rules (walked input)) (read_of input).refusal
  pub ncts : Bytes input → Given (ncts_rules (walked input)) (ncts_of input).refusal
  -- past rows 1 to 6 the request is known, whatever a later row says: it is what the sections say
  pub said : (ask_of input).refusal ≡ 0 → (ask_of input).request ≡ request_of (walked input)
  pub known : (read_of input).request ≡ (ask_of input).request
  -- beside one of these stands an empty one
  pub none : (ask_of input).refusal ≢ 0 → (ask_of input).request ≡ record { wiring = Board; video = no_video; sound = Off; matrix = no_matrix }
