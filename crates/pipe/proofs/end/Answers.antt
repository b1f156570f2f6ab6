-- `pipe::end` meets its contract. Assumes nothing.
use mathlib.Core.Path.{◌≡◌, ap, ◌∙◌}
use mathlib.Core.Bool.{true}
use Prim.Native.Nat.{ℕ}
use lib.ListN.{length}
use Rattle.pipe.specs.Bytes.{answer_byte, said_by, with_answer, count_in}
use Rattle.pipe.specs.Found.{is_open, end_byte}
use Rattle.pipe.proofs.Joined.{open_is, length_so_far}
use Rattle.pipe.proofs.Answers.{ending_nothing, ending, by_pair}
use Rattle.pipe.proofs.end.Goals as goal

pub returns-in-Err-clause-ends : goal.returns-in-Err-clause-ends
returns-in-Err-clause-ends c = let m = ending_nothing _ c.in-Err.ensures.0 in (c.in-Err.ensures.1 ∙ m.0, m.1)

pub returns-clause-ends : goal.returns-clause-ends
returns-clause-ends c = let p = c.args.pipe.now in
    let t : is_open p ≡ true = c.in-Ok.ensures.0 in
    let m = ending p t in
    let byte : c.answer_byte.result ≡ end_byte p = c.answer_byte.ensures ∙ ap answer_byte (by_pair _ _ (rw c.in-Ok.ensures.1 at c.ncts.ensures)) in
    let count : length c.in-Ok.so_far.bytes.now ≡ count_in p = rw c.in-Ok.ensures.1 (length_so_far p (open_is p t).0) in (
      c.said.ensures ∙ ap (λ (k : ℕ). said_by k (length c.in-Ok.so_far.bytes.now)) byte ∙ ap (said_by (end_byte p)) count ∙ m.0,
      ap (with_answer p) byte ∙ m.1,
    )
