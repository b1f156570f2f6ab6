-- `plan::halves` meets its contract: each byte is that of its coefficient. Assumes nothing.
use mathlib.Core.Path.{◌≡◌, refl, sym, ap, ◌∙◌}
use mathlib.Core.List.{List, [], ◌∷◌, map}
use Prim.Native.Nat.{ℕ, ◌/◌, ◌%◌}
use native.Mathlib.Nat.{zero-add}
use native.Mathlib.Omega.{arith}
use lib.ListN.{get_or}
use borrow.Author.Rules.{rules}
use Rattle.std.proofs.lemmas.Grind.{same_number_lists}
use Rattle.lists.proofs.Emit.{map_at}
use Rattle.matrix.proofs.Made.{made}
use Rattle.writes.specs.Rows.{from}
use Rattle.writes.proofs.Image.{from_at}
use Rattle.plan.proofs.halves.Goals as goal

pub returns : goal.returns
returns c =
    let k : List ℕ = c.args.k in
    let h : ℕ → ℕ = λ i. get_or (get_or k (i / 2) 0 / 256 % 256 ∷ get_or k (i / 2) 0 % 256 ∷ []) (i % 2) 0 in
    let high : (i : ℕ) → get_or k i 0 / 256 % 256 ≡ get_or k i 0 / 256 = λ i. omega (arith, c.requires i) in
    let all = c.from_fn.ensures.items in
    let at = made _ h _ (λ i y q called. search rules) c.from_fn.result 24 0 all in
    let whole : c.from_fn.result ≡ map h (from 0 24) =
    same_number_lists _ _ all.long (λ i l. at i (rw all.long at l) ∙ sym (map_at h (from 0 24) i 0 0 (rw all.long at l) ∙ ap h (from_at 0 24 i (rw all.long at l) ∙ zero-add i))) in
    whole ∙ rw (high 0, high 1, high 2, high 3, high 4, high 5, high 6, high 7, high 8, high 9, high 10, high 11) refl
