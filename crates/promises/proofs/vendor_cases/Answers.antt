-- `promises::vendor_cases` meets its contract, which is the table's test. Assumes nothing.
use Rattle.promises.proofs.VendorCases.{vendor_cases}
use Rattle.promises.proofs.vendor_cases.Goals as goal

pub returns : goal.returns
returns c = vendor_cases
