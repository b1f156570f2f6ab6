-- `request::Request::pair` meets its contract, by the two kinds of sound. Assumes nothing.
use Rattle.request.specs.Read.{pair_for}
use Rattle.request.proofs.Request.pair.Goals as goal

pub returns-in-Off : goal.returns-in-Off
unfolding pair_for
returns-in-Off c = simp (c.in-Off.is, c.audio_off.ensures)

pub returns-in-On : goal.returns-in-On
unfolding pair_for
returns-in-On c = simp (c.in-On.is, c.pair_of.ensures)
