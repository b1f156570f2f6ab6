-- The frames of an accepted request are not refused. Assumes nothing.
use mathlib.Core.Path.{◌≡◌, ap, ◌∙◌}
use mathlib.Core.Logic.{◌⊎◌, inl, inr}
use mathlib.Core.List.{List}
use Prim.Native.Nat.{ℕ}
use native.Mathlib.Omega.{arith}
use lib.ListN.{get_or}
use Rattle.std.specs.Prelude.{Result, Ok, Err}
use Rattle.refusals.specs.declared.Refusal.{Refusal}
use Rattle.video.specs.declared.Video.{Video}
use Rattle.video.specs.Fits.{VideoFits}
use Rattle.frames.specs.Numbered.{Avi, Audio}
use Rattle.frames.specs.Frames.{avi_frame}
use Rattle.frames.specs.Audio.{audio_frame}
use Rattle.frames.specs.Answers.{avi_of, audio_of, avi_told, audio_told}
use Rattle.frames.proofs.Refused.{avi_given_lem}

pub audio_given_lem : (channels : ℕ) → (channels ≡ 2) ⊎ (channels ≡ 8) → (audio_of channels).bytes ≡ audio_frame channels
unfolding audio_of
audio_given_lem channels (inl e) = rw e
audio_given_lem channels (inr e) = rw e

-- beside a refusal stand zeros, and no frame begins with one
pub avi_ok : (video : Video) → VideoFits video → (r : Result (List ℕ) Refusal) → avi_told r ≡ avi_of video → r ≡ Ok (avi_frame video)
unfolding avi_frame
avi_ok video f (Ok bytes) e = ap Ok (ap (λ (x : Avi). x.bytes) e ∙ avi_given_lem video f)
avi_ok video f (Err n) e =
    let zeros = ap (λ (x : Avi). x.bytes) e ∙ avi_given_lem video f in
    absurd (omega (arith, ap (λ (l : List ℕ). get_or l 0 0) zeros))

pub audio_ok : (channels : ℕ) → (channels ≡ 2) ⊎ (channels ≡ 8) → (r : Result (List ℕ) Refusal) → audio_told r ≡ audio_of channels
    → r ≡ Ok (audio_frame channels)
unfolding audio_frame
audio_ok channels h (Ok bytes) e = ap Ok (ap (λ (x : Audio). x.bytes) e ∙ audio_given_lem channels h)
audio_ok channels h (Err n) e =
    let zeros = ap (λ (x : Audio). x.bytes) e ∙ audio_given_lem channels h in
    absurd (omega (arith, ap (λ (l : List ℕ). get_or l 0 0) zeros))
