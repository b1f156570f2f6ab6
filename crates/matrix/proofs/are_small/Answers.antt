-- `matrix::are_small` meets its contract: the answer so far is that of the fields so far. Assumes nothing.
use Rattle.std.proofs.Common.{◌≡◌, ◌∙◌, sym, ap, ℕ, Bool, ◌&&◌, ltb, List, [], ◌∷◌, ◌++◌, length, rules, tests}
use Rattle.std.proofs.lemmas.Fn.{fold_over, fronts}
use Rattle.std.proofs.lemmas.Iterator.{YieldsList-from_slice}
use Rattle.matrix.specs.Tests.{small_fields}
use Rattle.matrix.proofs.Pairs.{small_push}
use Rattle.matrix.proofs.are_small.Goals as goal

so_far_more : (xs : List ℕ) (b : Bool) (x : ℕ) (r : Bool) → r ≡ (b && ltb x 8192) → b ≡ small_fields xs (length xs) → r ≡ small_fields (xs ++ x ∷ []) (length (xs ++ x ∷ []))
so_far_more xs b x r e so_far = e ∙ ap (λ a. a && ltb x 8192) so_far ∙ sym (small_push xs x)

pub returns : goal.returns
returns c =
    let k = c.args.k in
    let fields = YieldsList-from_slice {s = c.iter.result} k cc in
    let e : length k ≡ 12 = search rules in
    let all = fold_over fronts (λ y. y.now) _ (λ xs b. b ≡ small_fields xs (length xs)) _
    (λ xs b x r f' so_far called. (so_far_more xs b x.now r (search rules) so_far, search rules))
    c.iter.result k _ _ fields.runs (search rules) c.fold.ensures.ran in
    let small : c.fold.result ≡ small_fields k 12 = all ∙ ap (small_fields k) e in
    search (rules, tests, small)
