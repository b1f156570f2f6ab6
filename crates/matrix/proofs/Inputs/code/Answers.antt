-- `matrix::Inputs::code` meets its contract: its sum is that of the preview without signs. Assumes nothing.
use Rattle.std.proofs.Common.{◌/◌, min, sym, ◌∙◌, ap, arith}
use Rattle.matrix.proofs.Unsigned.{unsigned, shifted}
use Rattle.matrix.proofs.Inputs.code.Goals as goal

pub returns : goal.returns
returns c =
    let s = c.args.self in
    let small = c.requires.row_small in
    let whole = unsigned s.a s.b s.c c.args.mode small.0 small.1 small.2 small.3 in
    let up = shifted c.saturating_sub.result c.args.mode (omega (arith, s.small.0, s.small.1, s.small.2)) c.requires.mode_bound in
    c.min.ensures ∙ ap (λ n. min (n / 4096) 4095) up
    ∙ rw (c.saturating_sub.ensures, c.times.ensures.0, c.times-2.ensures.0, c.times-3.ensures.0, c.raise.ensures.0, c.from.ensures, c.from-2.ensures, c.from-3.ensures) (sym whole)
