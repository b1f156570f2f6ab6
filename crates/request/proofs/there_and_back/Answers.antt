-- `request::there_and_back` meets its contract, which is the theorem. Assumes nothing.
use Rattle.request.proofs.Back as back
use Rattle.request.proofs.there_and_back.Goals as goal

pub returns : goal.returns
returns c = back.there_and_back
