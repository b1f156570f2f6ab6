-- The theorem that `matrix::body_back` states: a matrix and its bytes, there and back.
-- Assumes nothing.
use Rattle.matrix.proofs.Body.{body_back}
use Rattle.matrix.proofs.body_back.Goals as goal

pub returns : goal.returns
returns c = body_back
