-- `matrix::preview` meets its contract. Assumes nothing.
use Rattle.std.proofs.Common.{◌≡◌, Err, ap, sym, ◌∙◌, rules}
use Rattle.refusals.specs.declared.Refusal.TheVariants.{InputAbove}
use Rattle.matrix.specs.Numbered.{pixel_told}
use Rattle.matrix.specs.Preview.{preview_of}
use Rattle.matrix.proofs.preview.Goals as goal

pub returns-then-not-fits : goal.returns-then-not-fits
unfolding preview_of
returns-then-not-fits c = simp (sym c.fits.ensures ∙ c.if-not-fits.true)

pub returns-in_err-inputs : goal.returns-in_err-inputs
unfolding preview_of
returns-in_err-inputs c =
    let e : c.from_residual.result ≡ Err InputAbove = search rules in
    ap pixel_told e ∙ simp (sym c.fits.ensures ∙ c.if-not-fits.false, c.in_err-inputs.ensures.outside.0)

pub returns : goal.returns
unfolding preview_of
returns c =
    let inputs = c.in_ok-inputs.ensures.within in
    simp (sym c.fits.ensures ∙ c.if-not-fits.false, inputs.0, c.code.ensures, c.code-2.ensures, c.code-3.ensures, inputs.1, inputs.2, inputs.3, c.of-m.ensures.value)
