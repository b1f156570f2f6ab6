-- `edid::in_place`: cited. Assumes nothing.
use Rattle.edid.proofs.Seen.{in_place_lem}
use Rattle.edid.proofs.in_place.Goals as goal

pub returns : goal.returns
returns c = in_place_lem
