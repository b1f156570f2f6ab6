-- `edid::Ask::is_told_by` meets its contract: by the question, and by the block's tag. Assumes nothing.
use mathlib.Core.Path.{◌∙◌}
use Prim.Native.Nat.{◌%◌}
use lib.Dec.{eqb}
use borrow.Author.Rules.{rules}
use borrow.Author.Tests.{tests, eq-eqb}
use Rattle.std.proofs.lemmas.Iterator.{YieldsList-from_slice}
use Rattle.std.proofs.lemmas.Iterator.Search.{any_from_yields_List}
use Rattle.edid.proofs.Some.{vic_among}
use Rattle.edid.proofs.Ask.is_told_by.Goals as goal

pub returns-then-tag-eq-VIDEO : goal.returns-then-tag-eq-VIDEO
returns-then-tag-eq-VIDEO c =
    any_from_yields_List (λ byte. eqb c.in-Vic.vic (byte % 128)) _ _ _ c.any.ensures.ran (YieldsList-from_slice c.args.body.now (cc)) (λ x b q k. search (rules, tests))
    ∙ vic_among c.in-Vic.vic c.args.body.now ∙ rw (c.in-Vic.is, eq-eqb _ _ c.if-tag-eq-VIDEO.true)
