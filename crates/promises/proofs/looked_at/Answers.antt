-- `promises::looked_at` meets its contract, which is the theorem. Assumes nothing.
use mathlib.Core.Path.{refl}
use Rattle.promises.proofs.Looked.{in_rows, planned, left_in, on_chip, decoded}
use Rattle.promises.proofs.LookedVet.{same_verdict}
use Rattle.promises.proofs.looked_at.Goals as goal

pub returns : goal.returns
returns c = record {
  rows = in_rows;
  count = refl;
  answer = λ input image other buffer g. planned image other g input buffer;
  buffer = λ input image other buffer g. left_in image other g input buffer;
  demand = on_chip;
  decoding = decoded c.exactly_when.ensures c.bit_by_bit.ensures;
  vet = same_verdict;
}
