-- `promises::vendors_lists` meets its contract, which is the theorem. Assumes nothing.
use Rattle.promises.proofs.Vendors.{vendors}
use Rattle.promises.proofs.vendors_lists.Goals as goal

pub returns : goal.returns
returns c = vendors
