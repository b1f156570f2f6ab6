-- `matrix::twelve` meets its contract: each field is that of its pair. Assumes nothing.
use Rattle.std.proofs.Common.{◌≡◌, ◌+◌, ◌*◌, ◌/◌, ◌<◌, get_or, length, ap, subst, ◌∙◌, sym, arith, rules, eq-eqb}
use Rattle.std.proofs.lemmas.Grind.{same_number_lists}
use Rattle.matrix.specs.Coefficient.{word, low_thirteen}
use Rattle.matrix.specs.Matrix.{fields}
use Rattle.matrix.proofs.Pairs.{fields_at, length_fields}
use Rattle.matrix.proofs.Made.{made}
use Rattle.matrix.proofs.twelve.Goals as goal

pub returns : goal.returns
returns c =
    let bytes = c.args.bytes.now in
    let got = c.in-Ok.bytes.now in
    let chunk = c.in-Ok.ensures in
    let all = c.from_fn.ensures.items in
    let at = made _ (λ i. low_thirteen (word (get_or got (2 * i) 0) (get_or got (2 * i + 1) 0))) _ (λ i y q called. search rules) c.from_fn.result 12 0 all in
    let l : length got ≡ 24 = search rules in
    let whole : c.from_fn.result ≡ fields got =
    same_number_lists _ _ (all.long ∙ sym (length_fields got ∙ ap (λ n. n / 2) l)) (λ i h. let k : i < 12 = subst (λ n. i < n) all.long h in at i k ∙ sym (fields_at got i (omega (arith, l, k)))) in
    rw (eq-eqb _ _ chunk.1.long) (whole ∙ ap fields chunk.1.same)
