-- `views::entry::write_into` meets its contract. Assumes nothing.
use mathlib.Core.Path.{◌≡◌, refl, sym, ap, ◌∙◌}
use mathlib.Core.List.{List}
use Prim.Native.Nat.{ℕ}
use borrow.Author.Rules.{rules}
use Rattle.std.proofs.lemmas.Result.{err_from_is_err_and}
use Rattle.chip.specs.declared.Chip.{Chip}
use Rattle.chip.specs.Numbered.{applied_told}
use Rattle.chip.specs.Write.{write_of}
use Rattle.views.specs.Entry.{Lent, lent, SliceAnswer, wrote_in, enter_of}
use Rattle.views.proofs.Lent.{let_past, turned_away, let_in, left_by_a_refusal, left_by_a_write}
use Rattle.views.proofs.entry.write_into.Goals as goal
use Rattle.views.proofs.entry.write_into.Goals.{After-apply}

-- the slices as they are lent
abbrev slices : After-apply → Lent
slices c = let a = c.args in lent a.image.now a.packet.now a.coefficients.now a.mark.now

same_lent : {i p k m i' p' k' m' : List ℕ} → i ≡ i' → p ≡ p' → k ≡ k' → m ≡ m' → lent i p k m ≡ lent i' p' k' m'
same_lent a b c d = rw (a, b, c, d) refl

-- past the test the write is the machine's, of the state in the slices
entered : (c : After-apply) → enter_of (slices c) c.args.address c.args.value ≡ wrote_in (slices c) (applied_told c.apply.new.self c.apply.result)
entered c =
    let a = c.args in
    let l = slices c in
    let_in l a.address a.value (let_past l c.in_ok-sized.ensures)
    ∙ ap (wrote_in l) (sym (c.apply.ensures ∙ ap (λ (s : Chip). write_of s a.address a.value) c.read.ensures))

pub returns-in_err-sized : goal.returns-in_err-sized
returns-in_err-sized c = let a = c.args in
    let p = err_from_is_err_and c.from_residual.result c.from_residual.ensures.1 in
    let e = turned_away (lent a.image.now a.packet.now a.coefficients.now a.mark.now) a.address a.value _ c.in_err-sized.ensures in
    rw (p.1, p.2) (ap (λ (e : SliceAnswer). e.refusal) e, ap (λ (e : SliceAnswer). e.slices) e)

pub returns-in_err-apply : goal.returns-in_err-apply
returns-in_err-apply c =
    let w = (goal.at.returns-in_err-apply c).After-apply in
    let p = err_from_is_err_and c.from_residual-in_err-apply.result c.from_residual-in_err-apply.ensures.1 in
    let e = entered w ∙ left_by_a_refusal (slices w) c.apply.new.self c.apply.result c.in_err-apply.field-0.0 c.in_err-apply.was in
    rw (p.1, p.2) (ap (λ (e : SliceAnswer). e.refusal) (sym e), ap (λ (e : SliceAnswer). e.slices) (sym e))

pub returns : goal.returns
returns c =
    let w = (goal.at.returns c).After-apply in
    let e = entered w ∙ left_by_a_write (slices w) c.apply.new.self c.apply.result c.in_ok-apply.field-0 c.in_ok-apply.was in
    let l = c.leave.ensures in
    let i = sym l.same_image in
    let p = sym l.same_packet in
    let k = sym l.same_coefficients in
    let m = sym l.same_mark in
    (ap (λ (e : SliceAnswer). e.refusal) (sym e), same_lent (search rules) (search rules) (search rules) (search rules) ∙ l.bytes ∙ ap (λ (e : SliceAnswer). e.slices) (sym e))
