-- `frames::avi_frame` meets its contract. Assumes nothing.
use Rattle.frames.specs.Frames.{avi_frame}
use Rattle.frames.proofs.avi_frame.Goals as goal

pub returns : goal.returns
unfolding avi_frame
returns c = simp (
  c.with_checksum.ensures,
  c.colour.ensures,
  c.quantised-third.ensures,
  c.repeated-repeats.ensures,
  c.ycc_quantisation-ycc.ensures,
  c.content_type-content.ensures,
  c.requires.0,
)
