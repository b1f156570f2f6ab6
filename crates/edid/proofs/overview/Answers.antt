-- `edid::overview` meets its contract. Assumes nothing.
use mathlib.Core.Path.{◌≡◌, ap}
use borrow.Author.Rules.{rules}
use borrow.Author.Tests.{eq-eqb, ne_eqb}
use Rattle.std.specs.Prelude.{Err}
use Rattle.edid.specs.Found.{ask_at, word_in, edid_refusal, overview_of, monitor_of}
use Rattle.edid.proofs.overview.Goals as goal

pub returns-in_err-screen : goal.returns-in_err-screen
unfolding monitor_of
returns-in_err-screen c = let e = c.args.edid.now in
    let m = rw c.in_err-screen.was at c.read.ensures in
    let r : c.from_residual.result ≡ Err c.in_err-screen.field-0.0 = search rules in
    rw (r, m.1, ne_eqb (edid_refusal e) 0 m.0)

pub returns : goal.returns
unfolding monitor_of
returns c = let e = c.args.edid.now in
    let m = rw c.in_ok-screen.was at c.read.ensures in
    let low : c.word.result ≡ word_in c.in_ok-screen.screen.bytes.now 0 1 31 = c.word.ensures.bits (ask_at 0) (λ n r s k. search rules) in
    let high : c.word-2.result ≡ word_in c.in_ok-screen.screen.bytes.now 0 32 32 = c.word-2.ensures.bits (ask_at 0) (λ n r s k. search rules) in
    let two : c.word-3.result ≡ word_in c.in_ok-screen.screen.bytes.now 2 0 7 = c.word-3.ensures.bits (ask_at 2) (λ n r s k. search rules) in
    let eight : c.word-4.result ≡ word_in c.in_ok-screen.screen.bytes.now 8 0 7 = c.word-4.ensures.bits (ask_at 8) (λ n r s k. search rules) in
    rw (eq-eqb (edid_refusal e) 0 m.0, low, high, two, eight) (ap overview_of m.1)
