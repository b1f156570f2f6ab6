-- `edid::any_block` meets its contract: what is answered of the blocks that are left is answered of all. Assumes nothing.
use Rattle.std.proofs.Common.{Result, Bool, length}
use Rattle.refusals.specs.declared.Refusal.{Refusal}
use Rattle.edid.specs.Screen.{Block, data_blocks}
use Rattle.edid.specs.Code.{Tests, Answers}
use Rattle.edid.proofs.any_block.Given as goal

abbrev pub invariant-loop-head : goal.invariant-loop-head
invariant-loop-head g l =
    (test : Block → Bool) → Tests (λ tag body r. goal.F-post g l.fn.test tag body r) test → (r : Result Bool Refusal)
    → Answers test (data_blocks l.left) r → Answers test (data_blocks l.bytes) r

abbrev pub decreases-loop-head : goal.decreases-loop-head
decreases-loop-head g l = length l.left
