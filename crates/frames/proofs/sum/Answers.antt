-- `frames::sum` meets its contract: the sum so far is the total of the bytes so far, modulo 256. Assumes nothing.
use Rattle.std.proofs.Common.{◌≡◌, ◌%◌, arith, rules}
use Rattle.std.proofs.lemmas.Fn.{fold_over, fronts}
use Rattle.std.proofs.lemmas.Iterator.{YieldsList-from_slice}
use Rattle.frames.specs.Frames.{total}
use Rattle.frames.proofs.Total.{total_push}
use Rattle.frames.proofs.sum.Goals as goal

pub returns : goal.returns
unfolding total
returns c =
    let s = c.args.s.now in
    let bytes = YieldsList-from_slice {s = c.iter.result} s cc in
    fold_over fronts (λ y. y.now) _ (λ xs t. t ≡ total xs % 256) _
    (λ xs t x u f' so_far called. let more = total_push xs x.now in (omega arith, search rules))
    c.iter.result s 0 _ bytes.runs (search rules) c.fold.ensures.ran
