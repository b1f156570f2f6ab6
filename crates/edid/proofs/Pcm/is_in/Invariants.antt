-- `edid::Pcm::is_in` meets its contract: what the descriptors that are left say, all say. Assumes nothing.
use Rattle.std.proofs.Common.{◌≡◌, length}
use Rattle.lists.specs.Find.{some}
use Rattle.edid.specs.Screen.{descriptors, covered_by}
use Rattle.edid.proofs.Pcm.is_in.Given as goal

abbrev pub invariant-loop-first : goal.invariant-loop-first
invariant-loop-first l = some (covered_by l.self.rate l.self.channels) (descriptors l.body) ≡ some (covered_by l.self.rate l.self.channels) (descriptors l.left)

abbrev pub decreases-loop-first : goal.decreases-loop-first
decreases-loop-first l = length l.left
