-- `matrix::fits` meets its contract. Assumes nothing.
use Rattle.std.proofs.Common.{refl, length-drop, ◌≡◌, ◌-◌, ◌∙◌, ap, get_or, length, take, drop, arith, rules, tests}
use Rattle.std.specs.List.{list_all}
use Rattle.std.proofs.lemmas.List.{take_all}
use Rattle.std.proofs.lemmas.Iterator.{YieldsList-from_slice}
use Rattle.std.proofs.lemmas.Iterator.Search.{all_from_yields_List}
use borrow.Author.Tests.{eq-eqb, ne_eqb, le-leb, lt-leb}
use Rattle.matrix.specs.Coefficient.{word}
use Rattle.matrix.specs.Tests.{within, in_range, is_allowed}
use Rattle.matrix.proofs.Pairs.{pairs_range}
use Rattle.matrix.proofs.fits.Goals as goal
use Rattle.matrix.proofs.fits.Goals.{then-body-ne25-via-then-body-ne25, then-body-ne25-via-else-body-ne25+then-body-gt2}

pub returns-then-body-ne25 : goal.returns-then-body-ne25
unfolding is_allowed
returns-then-body-ne25 c = elim c.then-body-ne25.branch [
  | then-body-ne25-via-then-body-ne25 w ↦ simp (ne_eqb _ _ w.if-body-ne25.true)
  | then-body-ne25-via-else-body-ne25+then-body-gt2 w ↦ simp (eq-eqb _ _ w.if-body-ne25.false, lt-leb _ _ w.if-body-gt2.true)
]

pub returns : goal.returns
unfolding is_allowed
returns c =
    let body = c.args.body.now in
    let pairs = c.as_chunks.result.0.now in
    let after : take (length body - 1) (drop 1 body) ≡ drop 1 body = take_all _ _ (search rules) in
    let l : length (take (length body - 1) (drop 1 body)) ≡ 24 = rw after (omega (arith, length-drop 1 body)) in
    let all = all_from_yields_List (λ pair. within (word (get_or pair 0 0) (get_or pair 1 0))) _ _ c.all.result c.all.ensures.ran (YieldsList-from_slice {s = c.iter.result} pairs cc) (λ x b q k. search (rules, tests)) in
    let e : c.all.result ≡ in_range (drop 1 body) =
    all ∙ ap (list_all (λ pair. within (word (get_or pair 0 0) (get_or pair 1 0)))) c.as_chunks.ensures.front ∙ pairs_range _ _ (rw l refl) ∙ ap in_range after in
    simp (eq-eqb _ _ c.if-body-ne25.false, le-leb _ _ c.if-body-gt2.false, e)
