-- `meter::fields_in` meets its contract: before turn i the first i are fields, and are stored. Assumes nothing.
use mathlib.Core.Path.{◌≡◌, refl, sym, ap, ap₂, ◌∙◌}
use mathlib.Core.Logic.{inl}
use mathlib.Core.Bool.{true}
use mathlib.Core.List.{List}
use Prim.Native.Nat.{ℕ}
use Rattle.std.proofs.Common.{Some}
use native.Mathlib.Omega.{arith}
use lib.ListN.{get_or, set}
use borrow.Author.Rules.{rules}
use Rattle.lists.proofs.Copied.{copy_more, copy_end, over_whole}
use Rattle.lists.proofs.Find.{at_every}
use Rattle.meter.specs.Numbers.{is_offset, number_of}
use Rattle.meter.specs.Found.{field_in, fields_in, is_field, fits_in}
use Rattle.meter.proofs.Answers.{one_more}
use Rattle.meter.proofs.Held.{some, none}
use Rattle.meter.proofs.Modes.{field_at, fields_length, unfit}
use Rattle.meter.proofs.fields_in.Goals as goal

pub loop-i-preserved : goal.loop-i-preserved
loop-i-preserved c =
    let l = c.loop-i in
    let a = c.args in
    let n = fields_length a.mode a.numbers in
    let at = field_at a.mode a.numbers l.i (search rules) in
    let v = c.in_ok-field.field-0 in
    let f = some (is_field (field_in a.mode (is_offset l.i) (number_of a.numbers l.i))) (field_in a.mode (is_offset l.i) (number_of a.numbers l.i)) v
    (search rules) in
    let e : v ≡ get_or (fields_in a.mode a.numbers) l.i 0 = sym (at ∙ f.1) in (
      l.invariant.0,
      refl,
      ap₂ (λ (out : List ℕ) (v : ℕ). set out l.i v) l.invariant.2 e ∙ copy_more _ _ l.i (search rules) (omega (arith, n, l.invariant.0, c.loop-i-test.true)),
      one_more (λ k. is_field (get_or (fields_in a.mode a.numbers) k 0) ≡ true) l.i l.invariant.3 (ap is_field at ∙ f.0),
    )

pub returns-in_err-field : goal.returns-in_err-field
returns-in_err-field c =
    let l = c.loop-i in
    let a = c.args in
    let f = none (is_field (field_in a.mode (is_offset l.i) (number_of a.numbers l.i))) (field_in a.mode (is_offset l.i) (number_of a.numbers l.i)) (search rules) in
    rw (unfit a.mode a.numbers l.i (search rules) f) (search rules)

pub returns : goal.returns
returns c =
    let l = c.loop-i in
    let a = c.args in
    let n = fields_length a.mode a.numbers in
    let whole = l.invariant.2 ∙ copy_end _ _ l.i (omega (arith, n)) (search rules) (inl (omega (arith, n))) ∙ over_whole _ _ (n ∙ l.invariant.0) in
    let all : fits_in a.mode a.numbers ≡ true = at_every is_field (fields_in a.mode a.numbers) 0 (λ k h. l.invariant.3 k (omega (arith, n, h))) in
    rw all (ap Some whole)
