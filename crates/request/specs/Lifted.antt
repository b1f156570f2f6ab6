-- Document 02, request 10: "more channels or a higher rate in the same mode never lifts this refusal".
use Rattle.std.specs.Prelude.{◌≡◌, List, ℕ}
use Rattle.refusals.specs.Rows.{number, sound_too_much}
use Rattle.blanking.specs.Theorems.{SameMode, NoLess}
use Rattle.request.specs.Read.{ask_of, read_of}

-- of an input that is refused so, and another to which none of rows 1 to 6 applies
abbrev pub NeverLifted : List ℕ → List ℕ → Type 0
NeverLifted input other =
    (read_of input).refusal ≡ number sound_too_much → (ask_of other).refusal ≡ 0
    → SameMode (read_of input).request.video (read_of other).request.video
    → NoLess (read_of input).request.sound (read_of other).request.sound
    → (read_of other).refusal ≡ number sound_too_much
