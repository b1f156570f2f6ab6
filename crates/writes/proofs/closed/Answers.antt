-- `writes::closed` meets its contract: each register's byte is that of its columns. Assumes nothing.
use mathlib.Core.Path.{◌∙◌}
use mathlib.Core.List.{List}
use Prim.Native.Nat.{ℕ}
use lib.ListN.{get_or}
use borrow.Author.Rules.{rules}
use Rattle.bits.specs.Merge.{merge}
use Rattle.matrix.proofs.Made.{made}
use Rattle.writes.specs.Columns.{open_bits, held_bits}
use Rattle.writes.proofs.Columns.{by_columns}
use Rattle.writes.proofs.closed.Goals as goal

pub returns : goal.returns
returns c a h =
    let image : List ℕ = c.args.image.now in
    let want : ℕ → ℕ = λ b. get_or c.args.wanted.now b 0 in
    made _ (λ i. merge 8 (open_bits i) (merge 8 (held_bits i) (get_or image i 0) (want i)) (held_bits i)) _ (λ i y q called. search rules)
    c.from_fn.result 256 0 c.from_fn.ensures.items a h
    ∙ by_columns want image a
