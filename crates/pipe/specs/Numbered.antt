-- What the calls on a pipe answer, in the paper's numbers: a refusal or 0, whether that is the request's answer, and the count of an accepted
-- request's bytes; 7 for bytes that are no pipe.
-- `Refused` has the pipe's byte as it stands, whichever that is. Where a call found the refusal, the byte is its number, and no two refusals have
-- one number (`refusals::told_apart`).
use Rattle.std.specs.Prelude.{◌≢◌, ℕ}
use Rattle.refusals.specs.Rows.{number, image_length}
use Rattle.pipe.specs.declared.Said.{Said}
use Rattle.pipe.specs.declared.Said.TheVariants.{NoPipe, Open, Accepted, Refused}

pub record Piped : Type 0 where
  pub refusal : ℕ
  pub answered : ℕ
  pub count : ℕ

abbrev pub piped_told : Said → Piped
piped_told NoPipe = record { refusal = number image_length; answered = 0; count = 0 }
piped_told Open = record { refusal = 0; answered = 0; count = 0 }
piped_told (Accepted count) = record { refusal = 0; answered = 1; count = count }
piped_told (Refused n) = record { refusal = n.byte; answered = 1; count = 0 }

-- a refusal's byte is not 0, which is a pipe's byte for no answer yet
abbrev pub IsNumbered : Said → Type 0
IsNumbered NoPipe = Unit {0}
IsNumbered Open = Unit {0}
IsNumbered (Accepted count) = Unit {0}
IsNumbered (Refused n) = n.byte ≢ 0
