-- The two calls on single fields give the first of their rows that applies, and the AVI frame of a video that fits is given. Assumes nothing.
use Rattle.std.proofs.Common.{◌≡◌, ℕ, Bool, true, false, cond, eqb, List, sym, refl, ap, ◌∙◌, inr, ne_eqb}
use Rattle.lists.proofs.Decides.{equal, opposite, together, refuted, confirmed}
use Rattle.refusals.specs.Tests.{Test, lowest}
use Rattle.refusals.proofs.Tests.{Decided, lowest_given, answer_given, answer_beside, answer_none, none_in_stages, none_at, numbered}
use Rattle.video.specs.declared.Video.{Video}
use Rattle.video.specs.Fits.{VideoFits}
use Rattle.video.proofs.Listed.{not_listed}
use Rattle.video.specs.Modes.{mode_of}
use Rattle.video.specs.Video.{in_edition}
use Rattle.video.specs.Tests.{edition_outside, shown_outside, asked_under_d, shown_combined}
use Rattle.video.proofs.Fits.{is_edition_outside, is_shown_outside, is_under_d, is_shown_combined, is_listed}
use Rattle.frames.specs.Numbered.{Avi}
use Rattle.frames.specs.Numbered.{Audio}
use Rattle.frames.specs.Frames.{avi_frame}
use Rattle.frames.specs.Answers.{no_avi, no_audio, avi_tests, channels_tests, avi_of, audio_of}
use Rattle.frames.specs.Theorems.{avi_rules, audio_rules, FrameRefusals}

-- the numbers of the answers
abbrev avi_number : Avi → ℕ
avi_number a = a.refusal

abbrev audio_number : Audio → ℕ
audio_number a = a.refusal

avi_decided : (video : Video) → Decided (avi_tests video) (avi_rules video)
avi_decided video =
    (refl, not_listed video.vic, λ _. (refl, is_shown_outside video, λ _. (refl, is_shown_combined video, λ _. tt)))

audio_decided : (channels : ℕ) → Decided (channels_tests channels) (audio_rules channels)
audio_decided channels = (refl, together (opposite (equal channels 2)) (opposite (equal channels 8)), λ _. tt)

pub avi_given_lem : (video : Video) → VideoFits video → (avi_of video).bytes ≡ avi_frame video
unfolding avi_of
avi_given_lem video f =
    rw (
      ne_eqb _ _ (is_listed video f),
      refuted (is_shown_outside video) (λ h. f.inside (inr (inr h))),
      refuted (is_shown_combined video) (λ h. f.apart (inr (inr h))),
    )

pub refusals : FrameRefusals
unfolding avi_of audio_of
refusals =
    record {
      avi =
          λ video. answer_given no_avi _ avi_number (avi_rules video) (lowest (avi_tests video)) refl (λ _. refl)
          (lowest_given (avi_tests video) (avi_rules video) refl (avi_decided video));
      no_avi = λ video h. ap (λ (a : Avi). a.bytes) (answer_beside no_avi _ avi_number (lowest (avi_tests video)) (λ _. refl) h);
      avi_given =
          λ video z. ap (λ (a : Avi). a.bytes)
          (answer_none no_avi _ (lowest (avi_tests video)) (none_in_stages no_avi _ avi_number (lowest (avi_tests video)) refl z).0);
      audio =
          λ channels. answer_given no_audio _ audio_number (audio_rules channels) (lowest (channels_tests channels)) refl (λ _. refl)
          (lowest_given (channels_tests channels) (audio_rules channels) refl (audio_decided channels));
      no_audio = λ channels h. ap (λ (a : Audio). a.bytes) (answer_beside no_audio _ audio_number (lowest (channels_tests channels)) (λ _. refl) h);
      audio_given =
          λ channels z. ap (λ (a : Audio). a.bytes)
          (answer_none no_audio _ (lowest (channels_tests channels)) (none_in_stages no_audio _ audio_number (lowest (channels_tests channels)) refl z).0);
    }

-- where a video is shown under D, its edition byte alone decides what the AVI call answers
pub avi_by_edition : (v : Video) → (avi_of (in_edition 0x00 v)).refusal ≡ 0 → (avi_of v).refusal ≡ cond (edition_outside v) 5 (cond (asked_under_d v) 6 0)
unfolding avi_of shown_outside shown_combined
avi_by_edition v z = number v ∙ go (edition_outside v) refl (asked_under_d v) refl
  where
    number : (v : Video) → (avi_of v).refusal ≡ lowest (avi_tests v)
    number v = numbered no_avi _ avi_number (lowest (avi_tests v)) (λ _. refl) refl

    tests : List Test
    tests = avi_tests (in_edition 0x00 v)

    n : lowest tests ≡ 0
    n = sym (number (in_edition 0x00 v)) ∙ z

    listed : eqb (mode_of v.vic).families 0 ≡ false
    listed = none_at tests 0 n

    go : (b : Bool) → edition_outside v ≡ b → (c : Bool) → asked_under_d v ≡ c → lowest (avi_tests v) ≡ cond b 5 (cond c 6 0)
    go true e c h = rw (listed, confirmed (is_shown_outside v) (inr (inr (inr ((is_edition_outside v).passes e)))))
    go false e true h = rw (listed, e, none_at tests 1 n, confirmed (is_shown_combined v) (inr ((is_under_d v).passes h)))
    go false e false h = rw (listed, e, h, none_at tests 1 n, none_at tests 2 n)
