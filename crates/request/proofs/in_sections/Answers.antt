-- `request::in_sections` meets its contract, which is the theorem. Assumes nothing.
use Rattle.request.proofs.Walks.{walks}
use Rattle.request.proofs.Opened.{request_walks}
use Rattle.request.proofs.in_sections.Goals as goal

pub returns : goal.returns
returns c = record { any_sections = walks; of_a_request = request_walks }
