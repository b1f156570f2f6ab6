-- `line::line_of` meets its contract. Assumes nothing.
use mathlib.Core.Path.{refl, sym, ◌∙◌}
use Rattle.line.proofs.Given.{given, third}
use Rattle.line.proofs.line_of.Goals as goal

pub returns : goal.returns
returns c =
    let r = c.in_ok-request.request in
    given c.args.s.now r (sym (c.in_ok-request.ensures ∙ c.in_ok-read.ensures.reads)) _ c.in_ok-n.ensures refl
    (rw c.unwrap_or.ensures (third r.video c.avi_of.result c.avi_of.ensures)) c.audio_checksum.ensures
