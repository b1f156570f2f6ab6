-- `request::Found::judge` meets its contract: rows 4 to 6. Assumes nothing.
use mathlib.Core.Path.{ap, refl, ◌∙◌}
use Rattle.std.proofs.lemmas.Result.{err_from_is_err_and}
use Rattle.wiring.specs.Wiring.{wiring_in}
use Rattle.video.specs.Video.{video_in}
use Rattle.sound.specs.Sound.{sound_of}
use Rattle.request.proofs.Judged.{refused, taken}
use Rattle.refusals.proofs.Told.{refusal_some}
use Rattle.request.proofs.Found.judge.Goals as goal

pub returns-in_err-check : goal.returns-in_err-check
returns-in_err-check c =
    let p = err_from_is_err_and c.from_residual.result c.from_residual.ensures.1 in
    rw (p.1, p.2)
    (refused _ _ _ _ _ _
    (c.from_body-wiring.ensures ∙ ap wiring_in c.body.ensures)
    (c.from_body-video.ensures ∙ ap video_in c.body-2.ensures)
    (c.from_body-sound.ensures ∙ ap sound_of c.body-3.ensures)
    c.body-section.ensures
    (rw (c.of_body.ensures.missing, c.of_body.ensures.out_of_range) at c.in_err-check.ensures)
    (refusal_some _))

pub returns : goal.returns
returns c = taken _ _ _ _ _ _
    (c.from_body-wiring.ensures ∙ ap wiring_in c.body.ensures)
    (c.from_body-video.ensures ∙ ap video_in c.body-2.ensures)
    (c.from_body-sound.ensures ∙ ap sound_of c.body-3.ensures)
    c.body-section.ensures
    (rw (c.of_body.ensures.missing, c.of_body.ensures.out_of_range) at c.in_ok-check.ensures)
    _
    refl
    c.read.ensures
