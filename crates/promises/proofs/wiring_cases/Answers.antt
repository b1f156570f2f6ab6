-- `promises::wiring_cases` meets its contract, which is the theorem. Assumes nothing.
use Rattle.promises.proofs.WiringCases.{wiring_cases}
use Rattle.promises.proofs.wiring_cases.Goals as goal

pub returns : goal.returns
returns c = wiring_cases
