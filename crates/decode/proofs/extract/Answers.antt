-- `decode::extract` meets its contract: each section from its registers. Assumes nothing.
use native.Mathlib.Nat.{div-one}
use Rattle.decode.specs.Extract.{extract}
use Rattle.decode.proofs.extract.Goals as goal

pub returns : goal.returns
unfolding extract
returns c = simp (c.video_named.ensures, c.depth_of-depth.ensures, c.sound_in.ensures, c.matrix_in.ensures, c.from.ensures, c.wires_in.ensures, div-one)
