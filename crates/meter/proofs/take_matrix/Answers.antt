-- `meter::take_matrix` meets its contract: the tests one after another. Assumes nothing.
use Rattle.std.proofs.Common.{◌≡◌, ℕ, List, Err, length, sym, ap, ◌∙◌, rules}
use Rattle.refusals.specs.declared.Refusal.TheVariants.{FieldOutOfRange}
use Rattle.lists.specs.Over.{over}
use Rattle.matrix.specs.Body.{body_of}
use Rattle.meter.specs.Numbered.{Converted, converted_told, metered_told}
use Rattle.meter.specs.Found.{converted, meter_refused}
use Rattle.refusals.proofs.Told.{refusal_some}
use Rattle.meter.proofs.Answers.{not_twelve, no_room, not_converted_lem, converted_to}
use Rattle.meter.proofs.take_matrix.Goals as goal

pub returns-in_err-numbers : goal.returns-in_err-numbers
returns-in_err-numbers c =
    let h : length c.args.numbers.now ≡ 12 → ⊥ = search rules in
    let e : c.from_residual.result ≡ Err FieldOutOfRange = search rules in
    let m = not_twelve _ _ h in
    (ap metered_told e ∙ m.0, m.1)

pub returns-then-buffer-lt25 : goal.returns-then-buffer-lt25
returns-then-buffer-lt25 c =
    let twelve : length c.args.numbers.now ≡ 12 = search rules in
    no_room _ _ twelve c.if-buffer-lt25.true

pub returns-in_err-matrix : goal.returns-in_err-matrix
returns-in_err-matrix c =
    let twelve : length c.args.numbers.now ≡ 12 = search rules in
    let same : c.in_ok-numbers.numbers.now ≡ c.args.numbers.now = search rules in
    let refusal = c.in_err-matrix.field-0.0 in
    let given = sym (ap converted_told c.in_err-matrix.was) ∙ c.convert.ensures ∙ ap converted (c.from.ensures ∙ same) in
    let number = ap (λ (d : Converted). d.refusal) given in
    let e : c.from_residual-in_err-matrix.result ≡ Err refusal = search rules in
    let m = not_converted_lem _ _ twelve c.if-buffer-lt25.false (λ z. refusal_some refusal (number ∙ z)) in
    (ap metered_told e ∙ ap meter_refused number ∙ m.0, m.1)

pub returns : goal.returns
returns c =
    let twelve : length c.args.numbers.now ≡ 12 = search rules in
    let same : c.in_ok-numbers.numbers.now ≡ c.args.numbers.now = search rules in
    let given = sym (ap converted_told c.in_ok-matrix.was) ∙ c.convert.ensures ∙ ap converted (c.from.ensures ∙ same) in
    let m = converted_to _ _ twelve c.if-buffer-lt25.false (sym (ap (λ (d : Converted). d.refusal) given)) in
    let body = c.body.ensures ∙ ap (λ (d : Converted). body_of d.matrix) given in
    (m.0, c.copy.ensures ∙ ap (λ (l : List ℕ). over l c.args.buffer.now) body ∙ m.1)
