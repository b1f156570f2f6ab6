-- `line::Text::checked` meets its contract: the name, and then two digits. Assumes nothing.
use Rattle.line.specs.Words.{digit}
use Rattle.line.proofs.Stored.{then}
use Rattle.line.proofs.buffer.Text.checked.Goals as goal
use mathlib.Core.List.{[], ◌∷◌}
use Prim.Native.Nat.{◌/◌, ◌%◌}

pub returns-clause-adds : goal.returns-clause-adds
returns-clause-adds c =
    then c.args.name.now _ c.text.ensures (then (digit (c.args.byte / 16) ∷ []) (digit (c.args.byte % 16) ∷ []) c.digit.ensures c.digit-2.ensures)
